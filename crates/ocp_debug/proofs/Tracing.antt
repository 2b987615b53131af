-- The trace record that the code makes is that of the effect.
use Rattle.std.proofs.Common.{◌≡◌, ℕ, Bool, true, false, cond, List, [], Option, Some, None, refl, ap, sym, ◌∙◌, length, arith}
use Rattle.std.specs.Prelude.{option_to_list}
use Rattle.std.specs.FinMap.{get, get-insert}
use Rattle.std.specs.Ordering.{nat_cmp, eq_by_cmp}
use Rattle.std.specs.Cmp.{nat_cmp_total, unsigned_tied}
use Rattle.std.proofs.lemmas.Bool.Decides.{nat_tests}
use Rattle.bpf_types.specs.declared.line.Line.{Line}
use Rattle.ocp_loader.specs.LineAt.{line_of}
use Rattle.obcp_types.specs.declared.status.Status.{Status}
use Rattle.obcp_types.specs.declared.status.Status.TheVariants.{Inactive, Running, Held}
use Rattle.ocp_table.specs.declared.answers.InstructionOutcome.{InstructionOutcome}
use Rattle.ocp_table.specs.declared.answers.InstructionOutcome.TheVariants.{Broke, Ran, Called, Ended, Faulted}
use Rattle.ocp_table.specs.declared.answers.StepOutcome.{StepOutcome}
use Rattle.ocp_table.specs.declared.answers.StepOutcome.TheVariants as step
use Rattle.ocp_table.specs.Records.{Rec, Records}
use Rattle.ocp_table.specs.Effects.{Effect, Changed, Stepped, record_by, with_change, records_by, step_outcome, step_outcome_of}
use Rattle.ocp_table.specs.RequestTable.{Step, transition}
use Rattle.ocp_table.specs.Deciding.{outcome_in, effect_of_step, effect_by, effect_on, effect_in, is_full}
use Rattle.ocp_debug.specs.Traces.{traces_at, traces_if, traces_of, traces_by_change, traces_by}
use Rattle.ocp_debug.specs.Mirror.Tracing.{traced_place, leaves_trace, trace_of_line, trace_by, trace_after}

-- ---- one record

-- an event that did no instruction makes none
none_made : (id : ℕ) (place : Option ℕ) (outcome : StepOutcome) (after : Option Rec) → leaves_trace outcome ≡ false → option_to_list (trace_after id place outcome after) ≡ []
none_made id None outcome after undone = refl
none_made id (Some place) outcome after undone = ap (λ b. option_to_list (cond b (trace_by id place outcome after) None)) undone

module _ (id : ℕ) (r : Rec) where
  made_of : (outcome : InstructionOutcome) (found : Option Line) → line_of r.image r.machine.place ≡ found →
      option_to_list (trace_by id r.machine.place (step_outcome_of outcome) (Some (record_by (Stepped outcome) r))) ≡ traces_at found id outcome r
  made_of outcome found e = ap (λ o. option_to_list (trace_of_line id r.machine.place (step_outcome_of outcome) (record_by (Stepped outcome) r) o)) e ∙ by found
    where
      by : (found : Option Line) → option_to_list (trace_of_line id r.machine.place (step_outcome_of outcome) (record_by (Stepped outcome) r) found) ≡ traces_at found id outcome r
      by None = refl
      by (Some line) = refl

  made_if : (outcome : InstructionOutcome) (traced : Bool) → leaves_trace (step_outcome_of outcome) ≡ true →
      option_to_list (trace_after id (cond traced (Some r.machine.place) None) (step_outcome_of outcome) (Some (record_by (Stepped outcome) r))) ≡ traces_if traced id outcome r
  made_if outcome false done = refl
  made_if outcome true done =
      ap (λ b. option_to_list (cond b (trace_by id r.machine.place (step_outcome_of outcome) (Some (record_by (Stepped outcome) r))) None)) done
      ∙ made_of outcome (line_of r.image r.machine.place) refl

  made : (outcome : InstructionOutcome) →
      option_to_list (trace_after id (traced_place (Some r)) (step_outcome_of outcome) (Some (record_by (Stepped outcome) r))) ≡ traces_of id outcome r
  made Broke = none_made id (traced_place (Some r)) step.Broke (Some (record_by (Stepped Broke) r)) refl
  made Ran = made_if Ran r.traced refl
  made (Called call) = made_if (Called call) r.traced refl
  made Ended = made_if Ended r.traced refl
  made (Faulted number) = made_if (Faulted number) r.traced refl

-- ---- the record of an event

module _ (pool : List ℕ) (id : ℕ) (m : Records) where
  -- the code makes the record of this effect
  abbrev IsMade : Option Rec → Effect → Type 0
  IsMade o e = option_to_list (trace_after id (traced_place o) (step_outcome e) (get (records_by e m) id)) ≡ traces_by e m

  same_id : eq_by_cmp nat_cmp id id ≡ true
  same_id = unsigned_tied id id ∙ grind (arith, nat_tests)

  changed_there : (r : Rec) (outcome : InstructionOutcome) → get m id ≡ Some r → get (records_by (Changed id (Stepped outcome)) m) id ≡ Some (record_by (Stepped outcome) r)
  changed_there r outcome here =
      ap (λ o. get (with_change o id (Stepped outcome) m) id) here
      ∙ get-insert nat_cmp_total m id (record_by (Stepped outcome) r) id
      ∙ ap (λ b. cond b (Some (record_by (Stepped outcome) r)) (get m id)) same_id

  made_by_step : (r : Rec) (outcome : Option InstructionOutcome) → get m id ≡ Some r → IsMade (Some r) (effect_of_step outcome id)
  made_by_step r None here = none_made id (traced_place (Some r)) step.NotRunning (get m id) refl
  made_by_step r (Some outcome) here =
      ap (λ o. option_to_list (trace_after id (traced_place (Some r)) (step_outcome_of outcome) o)) (changed_there r outcome here)
      ∙ made id r outcome
      ∙ sym (ap (λ o. traces_by_change id (Stepped outcome) o) here)

  made_in : (r : Rec) (status : Status) → get m id ≡ Some r → IsMade (Some r) (effect_by (transition (Step pool) (Some status) r.control.pending (length r.mailbox)) id (Some r) (is_full m))
  made_in r Inactive here = none_made id (traced_place (Some r)) step.NotRunning (get m id) refl
  made_in r Running here = made_by_step r (outcome_in r pool) here
  made_in r Held here = none_made id (traced_place (Some r)) step.NotRunning (get m id) refl

  made_on : (o : Option Rec) → get m id ≡ o → IsMade o (effect_on (Step pool) id o (is_full m))
  made_on None absent = refl
  made_on (Some r) here = made_in r r.control.status here

  pub traced : IsMade (get m id) (effect_in (Step pool) id m)
  traced = made_on (get m id) refl
