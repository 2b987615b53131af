use Rattle.ocp_loader.proofs.InOrder.{in_order}
use Rattle.ocp_loader.proofs.laws.instructions_in_order_are_lines.Goals as goal

pub returns : goal.returns
returns c = in_order c.instructions_are_decoded.ensures
