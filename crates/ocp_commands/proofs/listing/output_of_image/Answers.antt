use Rattle.std.proofs.Common.{rules}
use Rattle.ocp_commands.proofs.listing.output_of_image.Goals as goal

pub returns-in-Ok : goal.returns-in-Ok
returns-in-Ok g c = search rules
