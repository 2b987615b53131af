use Rattle.std.proofs.Common.{arith}
use Rattle.ocp_check.proofs.Counted.{if_number, none_counted, none_known, moved_anywhere}
use Rattle.ocp_check.proofs.rounds.most_at.Goals as goal

pub returns : goal.returns
returns c = if_number c.ahead_at.result _ _ (λ most h t e f.
    let v = h t.registers t (none_known t.registers f.stands.registers.eleven) e f (moved_anywhere t.registers t.registers) in
    let z = none_counted c.args.all.now.counters.now t.registers in
    omega (arith, v, z)) c.ahead_at.ensures
