-- A load, whose record is there before its reports are kept, and is taken back if they are not.
use Rattle.std.proofs.Common.{◌≡◌, ℕ, List, [], ◌++◌, Some, None, false, true, refl, sym, ap, subst, ◌∙◌}
use Rattle.std.specs.Prelude.{Result, Ok, Err}
use Rattle.std.specs.Result.{is_err}
use Rattle.std.specs.FinMap.{get, insert}
use Rattle.verification.specs.declared.outcome.Outcome.TheVariants as outcome
use Rattle.ocp_table.specs.Records.{Rec, Procedures}
use Rattle.ocp_table.specs.Effects.{Kept, Unasked, Loaded, new_record, with_procedure, failed_completion_of, start_result}
use Rattle.ocp_table.specs.RequestTable.{Load, Unload}
use Rattle.ocp_table.specs.Deciding.{effect_in, effect_on, is_full, answer_after}
use Rattle.ocp_table.proofs.ContentsLemmas.{get-inserted}
use Rattle.ocp_reports.specs.Origin.{Dispatch}
use Rattle.ocp_reports.specs.declared.origin.Origin.{Origin}
use Rattle.ocp_reports.specs.Reports.{reports_of}
use Rattle.ocp_world.specs.declared.answers.EngineFault.{EngineFault}
use Rattle.ocp_world.specs.World.{World}
use Rattle.ocp_world.specs.Effect.{Effect, Sends}
use Rattle.ocp_world.specs.After.{world_after}
use Rattle.ocp_world.specs.Requests.{directive_effect, outcome_by}
use Rattle.ocp_world.specs.Mirror.State.{IsWorld, DoesIn, StandsAfter, with_packets}
use Rattle.ocp_world.specs.declared.state.State.{State}

pub is_err-with : {K : Type 0} (result : Result K EngineFault) (written : List (List ℕ)) → is_err (with_packets result written) ≡ is_err result
is_err-with (Ok kept) written = refl
is_err-with (Err fault) written = refl

-- what was loaded can be unloaded
pub unloads : (t : Procedures) (id : ℕ) (r : Rec) → start_result (effect_on Unload id (Some r) (is_full (insert t.records id r))) ≡ Ok tt → answer_after Unload id (with_procedure id r t) ≡ Ok tt
unloads t id r is = ap (λ o. start_result (effect_on Unload id o (is_full (insert t.records id r)))) (get-inserted t.records id r) ∙ is

module _ {A : Type 0} (w : World) (s : State A) (stands : IsWorld w s) (id : ℕ) (code : List ℕ) (t : Procedures) (made : t ≡ with_procedure id (new_record s.table.profile code) s.table) (free : get s.table.records id ≡ None) (loads : effect_in (Load s.table.profile code) id s.table.records ≡ Loaded s.table.profile id code) where
  abbrev r : Rec
  r = new_record w.profile code

  -- the world with the record
  abbrev loaded : World
  loaded = record w { records = insert w.records id r }

  pub IsWorld-loaded : IsWorld loaded (record s { table = t })
  IsWorld-loaded = record {
    profile = ap (λ x. x.profile) made ∙ stands.profile;
    apid = stands.apid;
    records = ap (λ x. x.records) made ∙ ap (λ m. insert m id (new_record s.table.profile code)) stands.records ∙ ap (λ p. insert w.records id (new_record p code)) stands.profile;
    outbox = ap (λ x. x.outbox) made ∙ stands.outbox;
    pool = stands.pool;
    count = stands.count;
    ring = stands.ring;
  }

  effect_is : effect_in (Load w.profile code) id w.records ≡ Loaded w.profile id code
  effect_is =
      ap (λ p. effect_in (Load p code) id w.records) (sym stands.profile)
      ∙ ap (effect_in (Load s.table.profile code) id) (sym stands.records)
      ∙ loads
      ∙ ap (λ p. Loaded p id code) stands.profile

  abbrev dispatches : Origin → List Dispatch
  dispatches origin = reports_of origin outcome.Done []

  -- what the reports alone do in the world with the record
  abbrev sends : Origin → Effect
  sends origin = record { on_records = Kept Unasked; reply = Sends (dispatches origin) }

  abbrev loading : Origin → Effect
  loading origin = record { on_records = Loaded w.profile id code; reply = Sends (dispatches origin) }

  same_world : (origin : Origin) → world_after (sends origin) loaded ≡ world_after (loading origin) w
  same_world origin = ap (λ o. record (world_after (sends origin) loaded) { outbox = w.outbox ++ failed_completion_of o }) (sym (ap (λ m. get m id) (sym stands.records) ∙ free))

  module _ (origin : Origin) (result : Result (List (List ℕ)) EngineFault) (new : State A) (does : DoesIn loaded (sends origin) result new) where
    abbrev Loads : Effect → State A → Type 0
    Loads effect end = DoesIn w effect result end

    -- the reports are kept
    pub kept : is_err result ≡ false → Loads (directive_effect origin (Load w.profile code) id w.records) new
    kept ok = subst (λ e. Loads (record { on_records = e; reply = Sends (reports_of origin (outcome_by e) []) }) new) (sym effect_is) (does.0, stands_by result ok does.1)
      where
        stands_by : (x : Result (List (List ℕ)) EngineFault) → is_err x ≡ false → StandsAfter x loaded (world_after (sends origin) loaded) new → StandsAfter x w (world_after (loading origin) w) new
        stands_by (Ok reports) ok is = subst (λ v. IsWorld v new) (same_world origin) is
        stands_by (Err fault) ok is = absurd (cc)

    -- they are not, and the record is unloaded
    pub taken_back : (u : Procedures) → is_err result ≡ true → u ≡ s.table → Loads (directive_effect origin (Load w.profile code) id w.records) (record new { table = u })
    taken_back u lost back = subst (λ e. Loads (record { on_records = e; reply = Sends (reports_of origin (outcome_by e) []) }) (record new { table = u })) (sym effect_is) (does.0, stands_by result lost does.1)
      where
        stands_by : (x : Result (List (List ℕ)) EngineFault) → is_err x ≡ true → StandsAfter x loaded (world_after (sends origin) loaded) new → StandsAfter x w (world_after (loading origin) w) (record new { table = u })
        stands_by (Ok reports) lost is = absurd (cc)
        stands_by (Err fault) lost is = record {
          profile = ap (λ x. x.profile) back ∙ stands.profile;
          apid = is.apid;
          records = ap (λ x. x.records) back ∙ stands.records;
          outbox = ap (λ x. x.outbox) back ∙ stands.outbox;
          pool = is.pool;
          count = is.count;
          ring = is.ring;
        }
