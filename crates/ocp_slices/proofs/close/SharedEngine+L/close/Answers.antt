use Rattle.std.proofs.Common.{arith}
use Rattle.std.proofs.lemmas.Grind.{common_steps}
use Rattle.ocp_slices.proofs.Closing.{closed_by, refused_by}
use Rattle.ocp_slices.proofs.close.SharedEngine+L.close.Goals as goal

pub returns-in-Err-clause-back : goal.returns-in-Err-clause-back
returns-in-Err-clause-back g c = grind (arith, common_steps)

pub returns-in-Ok-clause-ok : goal.returns-in-Ok-clause-ok
returns-in-Ok-clause-ok g c =
    let e = c.in-Ok.ensures {u = tt} in
    closed_by g.L.Naming.log _ _ _ _ c.args.seats.items e.goes_on e.ok e.start e.whole e.history

pub returns-in-Err-clause-why : goal.returns-in-Err-clause-why
returns-in-Err-clause-why g c = refused_by _ _ c.args.seats.items c.in-Err.field-0.why (c.in-Err.ensures {u = tt}).err
