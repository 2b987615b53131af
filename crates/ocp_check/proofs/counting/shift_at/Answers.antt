use Rattle.std.proofs.Common.{rules, ◌≡◌, true, Some, get_or, sym, ◌∙◌}
use Rattle.std.specs.Prelude.{slice_get}
use Rattle.ocp_check.proofs.Counted.{if_some, shift_some}
use Rattle.ocp_check.proofs.counting.shift_at.Goals as goal

pub returns-in-Some : goal.returns-in-Some
returns-in-Some c =
    let e : slice_get c.args.counters.now c.args.k ≡ Some c.in-Some.counter = sym c.counter_at.ensures ∙ c.in-Some.is in
    let t : c.args.is ≡ true = search (rules, c) in
    if_some c.shift_of.result _ _ (λ shift h old new i j m.
    shift_some (slice_get c.args.counters.now c.args.k) c.in-Some.counter c.args.was c.args.is old new shift.more shift.less e t
    (h (get_or old c.in-Some.counter.register 0) (get_or new c.in-Some.counter.register 0) (c.range_of.ensures.meaning old i) (c.range_of-in-Some.ensures.meaning new j) (c.step_of.ensures old new m))) c.shift_of.ensures
