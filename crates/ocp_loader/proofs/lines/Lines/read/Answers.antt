use Rattle.ocp_loader.proofs.Room.{admitted_if_ok, begins_if_ok}
use Rattle.ocp_loader.proofs.lines.Lines.read.Goals as goal

pub returns-clause-admitted : goal.returns-clause-admitted
returns-clause-admitted g c = let k = c.judge.ensures in admitted_if_ok c.args.profile c.args.code.now _ _ k.ok k.read k.slots

pub returns-clause-begins : goal.returns-clause-begins
returns-clause-begins g c = begins_if_ok c.args.profile c.args.code.now _ _ c.judge.ensures.ok
