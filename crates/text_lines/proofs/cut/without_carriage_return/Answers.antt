use Rattle.std.proofs.Common.{rules}
use Rattle.text_lines.proofs.cut.without_carriage_return.Goals as goal

pub returns-in_default-2 : goal.returns-in_default-2
returns-in_default-2 c = search rules
