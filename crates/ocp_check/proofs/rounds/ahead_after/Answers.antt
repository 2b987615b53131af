use Rattle.std.proofs.Common.{◌≡◌, Some, sym, ◌∙◌, arith}
use Rattle.std.specs.Prelude.{slice_get}
use Rattle.bpf_step.specs.Calls.{frame_of}
use Rattle.ocp_check.specs.Mirror.Ranks.{registers_of}
use Rattle.ocp_check.proofs.Counted.{if_number}
use Rattle.ocp_check.proofs.Falls.{value_is}
use Rattle.ocp_check.proofs.rounds.ahead_after.Goals as goal

pub returns-in-Some : goal.returns-in-Some
returns-in-Some c = if_number c.ahead_by.result _ _ (λ most h s known.
    let e : slice_get c.args.all.now.ranks.now c.args.place ≡ Some c.in-Some.rank = sym c.rank_at.ensures ∙ c.in-Some.is in
    let value = value_is c.args.all.now.ranks.now c.args.all.now.counters.now c.args.place (registers_of (frame_of s)) c.in-Some.rank e in
    let after = h s.registers (registers_of (frame_of s)) known (c.saved_row.ensures s known) (c.steps_of_return.ensures s) in
    omega (arith, value, after)) c.ahead_by.ensures
