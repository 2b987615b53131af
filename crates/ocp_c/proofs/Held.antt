-- What a call through an open handle answers, leaves and writes.
use Rattle.std.proofs.Common.{◌≡◌, ◌≢◌, ℕ, ◌==◌, if◌then◌else◌, Option, Some, None, Result, Ok, Err, ap, ◌∙◌, arith}
use Rattle.std.proofs.lemmas.Bool.Decides.{nat_tests}
use Rattle.ocp_flight.specs.Flown.{Flown}
use Rattle.ocp_c.specs.declared.status.Status.{Status}
use Rattle.ocp_c.specs.declared.status.Status.TheVariants as status
use Rattle.ocp_c.specs.Statuses.{number_of}
use Rattle.ocp_c.specs.Calls.{answers, leaves, writes}
use Rattle.ocp_c.specs.Opening.{IsOpened}

pub answers_held : {held : Option Flown} {flown : Flown} (answer : Flown → Status) {number : ℕ} → held ≡ Some flown → number ≡ number_of (answer flown) → number ≡ answers held answer
answers_held answer h n = rw h n

pub leaves_held : {held new : Option Flown} {flown : Flown} (change : Flown → Flown) → held ≡ Some flown → new ≡ Some (change flown) → new ≡ leaves held change
leaves_held change h n = rw h n

pub writes_held : {X : Type 0} {held : Option Flown} {flown : Flown} (before : X) (write : Flown → X) {now : X} → held ≡ Some flown → now ≡ write flown → now ≡ writes held before write
writes_held before write h n = rw h n

-- a budget that is not 0
pub with_budget : {X : Type 0} (budget : ℕ) (none some : X) → budget ≢ 0 → (if budget == 0 then none else some) ≡ some
with_budget budget none some h = grind (arith, nat_tests)

-- ---- an engine that is opened

pub no_err : {X E : Type 0} {x : X} {e : E} → ◌≡◌ {A = Result X E} (Ok x) (Err e) → ⊥
no_err h = cc

pub same_err : {X E : Type 0} {d e : E} → ◌≡◌ {A = Result X E} (Err d) (Err e) → d ≡ e
same_err h = cc

pub is_open : {flown engine : Flown} {number : ℕ} {held : Option Flown} → held ≡ Some engine → number ≡ 0 → engine ≡ flown → IsOpened flown number held
is_open h n e = rw h (n, e)

pub no_memory : (flown : Flown) {number : ℕ} {refusal : Status} {held : Option Flown} → held ≡ None → number ≡ number_of refusal → refusal ≡ status.Memory → IsOpened flown number held
no_memory flown h n r = rw h (n ∙ ap number_of r)
