-- A request or a drain that was done: its reports, and the mark of its entry.
use Rattle.std.proofs.Common.{◌≡◌, ℕ, List, sym, ap, ◌∙◌}
use Rattle.std.specs.Prelude.{Result, Ok, Err, IfOk}
use Rattle.ocp_world.specs.declared.answers.EngineFault.{EngineFault}
use Rattle.ocp_world.specs.After.{Answer, Requested}
use Rattle.ocp_world.specs.Answers.{Answers}
use Rattle.ocp_world.specs.Mirror.State.{with_packets}
use Rattle.ocp_core.specs.declared.event.Entry as N
use Rattle.ocp_core.specs.Log.{Entry}
use Rattle.ocp_core.specs.Journal.{entry_with_mark}
use Rattle.ocp_core.specs.Receipts.{reports_in}

-- ---- the receipt of a journal: the reports, and the entry with them as its mark

module _ {A : Type 0} (r : Result (List (List ℕ) × N.Entry A) EngineFault) (entry : Entry) (packets : List (List ℕ)) where
  abbrev pub HasReceipt : Type 0
  HasReceipt = IfOk r (λ x. (x.0 ≡ packets) × (entry_with_mark x.1 ≡ record { entry = entry; mark = Requested (Ok packets) }))

pub answers_in : {A : Type 0} (r : Result (List (List ℕ) × N.Entry A) EngineFault) (entry : Entry) (packets : List (List ℕ)) (answer : Answer) → HasReceipt r entry packets → Answers (with_packets r packets) answer → Answers (reports_in r) answer
answers_in (Ok x) entry packets answer given is = is ∙ ap (λ reports. Requested (Ok reports)) (sym given.0)
answers_in (Err fault) entry packets answer given is = is

pub entry_in : {A : Type 0} (r : Result (List (List ℕ) × N.Entry A) EngineFault) (entry : Entry) (packets : List (List ℕ)) → HasReceipt r entry packets → IfOk r (λ x. entry_with_mark x.1 ≡ record { entry = entry; mark = Requested (Ok x.0) })
entry_in (Ok x) entry packets given = given.1 ∙ ap (λ (reports : List (List ℕ)). record { entry = entry; mark = Requested (Ok reports) }) (sym given.0)
entry_in (Err fault) entry packets given = tt
