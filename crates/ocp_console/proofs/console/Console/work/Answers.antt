use Rattle.std.proofs.Common.{List, ℕ, ap, inr, refl}
use Rattle.std.proofs.lemmas.Result.{err_from_is_err_and}
use Rattle.ocp_console.specs.Answering.{state_of}
use Rattle.ocp_console.proofs.console.Console.work.Goals as goal

pub returns-in_err-self-clause-refused : goal.returns-in_err-self-clause-refused
returns-in_err-self-clause-refused g c =
    let p = err_from_is_err_and c.from_residual.result c.from_residual.ensures.1 in
    rw (p.1, p.2) (inr (c.in_err-self.field-0.0, refl, c.in_err-self.ensures))

pub returns-clause-done : goal.returns-clause-done
returns-clause-done g c =
    let before = state_of c.args.self in
    (c.in_ok-self.field-0, c.in_ok-self.ensures, ap (λ (o : List ℕ). (record before { engine = c.in_ok-self.field-0 }, o)) (rw c.clear.ensures.items at c.in_ok-work_text.ensures))
