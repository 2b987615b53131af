use Rattle.std.proofs.Common.{◌≡◌, ◌++◌, ◌∷◌, [], Ok, Err, refl, ap, arith, length}
use Rattle.std.proofs.lemmas.List.{length_push}
use Rattle.std.proofs.lemmas.Result.{err_from_is_err_and}
use Rattle.ocp_saved.specs.Reading.{more_dues_at, more_times}
use Rattle.ocp_saved.proofs.Repeated.{goes_on, ends, is_done}
use Rattle.ocp_saved.proofs.completions.dues_at.Goals as goal

pub returns-in_err-due : goal.returns-in_err-due
returns-in_err-due c =
    let p = err_from_is_err_and c.from_residual.result c.from_residual.ensures.1 in
    let why = c.in_err-due.field-0.0 in
    let one : more_dues_at c.loop.dues.items c.loop.rest.now ≡ Err why = rw c.in_err-due.ensures refl in
    rw (p.1, p.2) (ends more_dues_at c.args.count c.loop.counter c.loop.dues.items c.loop.rest.now (more_times more_dues_at c.args.count [] c.args.octets.now) why c.loop-test.true one c.loop.invariant.0)

pub loop-preserved : goal.loop-preserved
loop-preserved c =
    let front = c.loop.dues.items in
    let due = c.in_ok-due.due in
    let after = c.in_ok-due.after.now in
    let one : more_dues_at front c.loop.rest.now ≡ Ok (front ++ due ∷ [], after) = rw c.in_ok-due.ensures refl in
    let pushed : c.push.new.self.items ≡ front ++ due ∷ [] = c.push.ensures.items in (
      rw pushed (goes_on more_dues_at c.args.count c.loop.counter front c.loop.rest.now (more_times more_dues_at c.args.count [] c.args.octets.now) (front ++ due ∷ []) after c.loop-test.true one c.loop.invariant.0),
      omega (arith, ap length pushed, length_push front due, c.loop.invariant.1),
    )

pub returns : goal.returns
returns c = is_done more_dues_at c.args.count c.loop.counter c.loop.dues.items c.loop.rest.now (more_times more_dues_at c.args.count [] c.args.octets.now) c.loop-test.false c.loop.invariant.0
