use Rattle.std.proofs.Common.{◌≡◌, ℕ, ◌<◌, ◌≤◌, Some, None, Option, refl, sym, subst, ap, ◌∙◌, arith}
use Rattle.std.specs.Prelude.{slice_get}
use Rattle.std.proofs.lemmas.Bool.Decides.{nat_tests}
use Rattle.ocp_check.specs.declared.counting.Counter.{Counter}
use Rattle.ocp_check.specs.Mirror.Ranks.{share, share_of}
use Rattle.ocp_check.proofs.rounds.is_saved.Goals as goal

pub returns-in-Some : goal.returns-in-Some
returns-in-Some c = λ h counts old new same.
    let e : slice_get c.args.counters.now c.args.k ≡ Some c.in-Some.counter = sym c.counter_at.ensures ∙ c.in-Some.is in
    let low : 5 < c.number.result = grind (arith, nat_tests) in
    let at : c.number.result ≡ c.in-Some.counter.register = c.number.ensures.same in
    subst (λ (o : Option Counter). share_of o counts new ≡ share_of o counts old) (sym e)
    (ap (share c.in-Some.counter counts) (same c.in-Some.counter.register (subst (λ n. 5 < n) at low) (subst (λ n. n < 11) at (ten c.number.ensures.in_range))))
  where
    ten : {n : ℕ} → n ≤ 10 → n < 11
    ten h = omega (arith, h)

pub returns-in-None : goal.returns-in-None
returns-in-None c = λ h counts old new same.
    let e : slice_get c.args.counters.now c.args.k ≡ None = sym c.counter_at.ensures ∙ c.in-None.is in
    subst (λ (o : Option Counter). share_of o counts new ≡ share_of o counts old) (sym e) refl
