-- What a directive does to the records, by the record that a look-up finds.
use Rattle.std.proofs.Common.{◌≡◌, ℕ, ◌+◌, ◌≤◌, ◌<◌, ◌++◌, length, subst, Bool, true, false, List, Option, Some, None, Result, Ok, Err, IsOk, refl, sym, ap, ◌∙◌, arith}
use Rattle.std.specs.FinMap as map
use Rattle.slab.specs.Slab.{Slab, Updates, slab_len}
use Rattle.obcp_types.specs.declared.status.Status.{Status}
use Rattle.obcp_types.specs.declared.status.Status.TheVariants.{Inactive, Running, Held}
use Rattle.obcp_types.specs.declared.failure.StartFailure.{StartFailure}
use Rattle.obcp_types.specs.declared.failure.StartFailure.TheVariants.{NotLoaded}
use Rattle.ocp_table.specs.declared.table.TheConstants.{MAX_PROCEDURES}
use Rattle.ocp_table.specs.declared.answers.InstructionOutcome.{InstructionOutcome}
use Rattle.bpf_types.specs.declared.line.Line.{Line}
use Rattle.ocp_loader.specs.declared.fault.LoadFault.{LoadFault}
use Rattle.ocp_loader.specs.LoadResult.{load_result}
use Rattle.ocp_profile.specs.declared.profile.Profile.{Profile}
use Rattle.ocp_table.specs.Records.{Rec, Records, Procedures}
use Rattle.ocp_table.specs.Effects.{Change, Effect, Loaded, Unloaded, Changed, Drained, WordPut, Kept, Failed, record_by, record_after, records_by, outbox_by, dues_by_change, failed_completion, failed_completion_of, dues_of, with_change}
use Rattle.ocp_table.specs.RequestTable.{Load, Step, transition}
use Rattle.ocp_table.specs.Deciding.{outcome_in, effect_of_load, effect_of_step, effect_by, effect_on, effect_in, is_full, bad_code}
use Rattle.ocp_table.specs.declared.change.Decision as B
use Rattle.ocp_table.specs.declared.change.Decision.TheVariants as decision
use Rattle.ocp_table.specs.Shown.{dues_of_effect, change_of, effect_decided}
use Rattle.obcp_types.specs.declared.pending.Due.{Due}
use Rattle.std.proofs.lemmas.List.{append-nil}
use Rattle.ocp_table.specs.Mirror.Contents.{IsSound}
use Rattle.std.proofs.lemmas.Bool.Decides.{nat_tests}
use Rattle.ocp_table.proofs.ContentsLemmas.{insert-same, remove-same, IsDistinct-removed}

-- ---- a table by its parts

abbrev pub table_of : Profile → Records → List Due → Procedures
table_of profile records outbox = record { profile = profile; records = records; outbox = outbox }

pub table_is : (profile : Profile) (m n : Records) (o p : List Due) → m ≡ n → o ≡ p → table_of profile m o ≡ table_of profile n p
table_is profile m n o p is files = ap (λ x. table_of profile x o) is ∙ ap (table_of profile n) files

-- ---- no procedure has the id

pub absent-step : (pool : List ℕ) (id : ℕ) (m : Records) → map.get m id ≡ None → effect_in (Step pool) id m ≡ Kept (Failed NotLoaded)
absent-step pool id m is = ap (λ o. effect_on (Step pool) id o (is_full m)) is

-- a load of code that may not be run fails, if the table has room
pub load_fails : (t : Procedures) (id : ℕ) (code : List ℕ) (fault : LoadFault) → map.get t.records id ≡ None → is_full t.records ≡ false → load_result t.profile code ≡ Err fault → effect_in (Load t.profile code) id t.records ≡ Kept (Failed (bad_code fault))
load_fails t id code fault free room is =
    ap (λ o. effect_on (Load t.profile code) id o (is_full t.records)) free
    ∙ ap (λ full. effect_of_load full (load_result t.profile code) t.profile id code) room
    ∙ ap (λ r. effect_of_load false r t.profile id code) is

loaded_by : (profile : Profile) (id : ℕ) (code : List ℕ) (r : Result (List (Option Line)) LoadFault) → IsOk r → effect_of_load false r profile id code ≡ Loaded profile id code
loaded_by profile id code (Ok lines) ok = refl
loaded_by profile id code (Err fault) ok = absurd (cc)

-- and code that may be run is loaded
pub load_loads : (t : Procedures) (id : ℕ) (code : List ℕ) → map.get t.records id ≡ None → is_full t.records ≡ false → IsOk (load_result t.profile code) → effect_in (Load t.profile code) id t.records ≡ Loaded t.profile id code
load_loads t id code free room ok =
    ap (λ o. effect_on (Load t.profile code) id o (is_full t.records)) free
    ∙ ap (λ full. effect_of_load full (load_result t.profile code) t.profile id code) room
    ∙ loaded_by t.profile id code (load_result t.profile code) ok

-- ---- what is decided of a record that is there

-- whether the table is full is asked by a load alone
same_step_of : (pool : List ℕ) (id : ℕ) (r : Rec) (s : Status) (full : Bool) → effect_by (transition (Step pool) (Some s) r.control.pending (length r.mailbox)) id (Some r) true ≡ effect_by (transition (Step pool) (Some s) r.control.pending (length r.mailbox)) id (Some r) full
same_step_of pool id r Inactive full = refl
same_step_of pool id r Running full = refl
same_step_of pool id r Held full = refl

pub same_step : (pool : List ℕ) (m : Records) (n id : ℕ) (r : Rec) → map.get m id ≡ Some r → n ≡ id → effect_on (Step pool) n (Some r) true ≡ effect_in (Step pool) id m
same_step pool m n id r here named =
    ap (λ i. effect_on (Step pool) i (Some r) true) named
    ∙ same_step_of pool id r r.control.status (is_full m)
    ∙ ap (λ o. effect_on (Step pool) id o (is_full m)) (sym here)

-- ---- what it changes

-- a change of the record of this procedure, or none
abbrev IsAbout : ℕ → Effect → Type 0
IsAbout q (Loaded profile id image) = ⊥
IsAbout q (Unloaded id) = ⊥
IsAbout q (Changed id change) = id ≡ q
IsAbout q Drained = ⊥
IsAbout q (WordPut index value) = ⊥
IsAbout q (Kept why) = Unit {0}

-- the record that is there, changed, is all that the effect changed
pub records_by-held : (m : Records) (id : ℕ) (r : Rec) (e : Effect) → map.get m id ≡ Some r → IsAbout id e → map.insert m id (record_after e r) ≡ records_by e m
records_by-held m id r (Loaded profile i image) here is = absurd is
records_by-held m id r (Unloaded i) here is = absurd is
records_by-held m id r (Changed i change) here is = sym (ap (λ k. with_change (map.get m k) k change m) is ∙ ap (λ o. with_change o id change m) here)
records_by-held m id r Drained here is = absurd is
records_by-held m id r (WordPut index value) here is = absurd is
records_by-held m id r (Kept why) here is = insert-same m id r here

-- what it files is all that the effect files
pub outbox_by-held : (m : Records) (id : ℕ) (r : Rec) (outbox : List Due) (e : Effect) → map.get m id ≡ Some r → IsAbout id e → outbox ++ dues_of_effect e r.control.pending ≡ outbox_by e m outbox
outbox_by-held m id r outbox (Loaded profile i image) here is = absurd is
outbox_by-held m id r outbox (Unloaded i) here is = absurd is
outbox_by-held m id r outbox (Changed i change) here is = sym (ap (λ k. outbox ++ dues_of change (map.get m k)) is ∙ ap (λ o. outbox ++ dues_of change o) here)
outbox_by-held m id r outbox Drained here is = absurd is
outbox_by-held m id r outbox (WordPut index value) here is = absurd is
outbox_by-held m id r outbox (Kept why) here is = refl

about_step : (q : ℕ) (o : Option InstructionOutcome) → IsAbout q (effect_of_step o q)
about_step q (Some outcome) = refl
about_step q None = tt

about_step_of : (pool : List ℕ) (q : ℕ) (r : Rec) (s : Status) → IsAbout q (effect_by (transition (Step pool) (Some s) r.control.pending (length r.mailbox)) q (Some r) true)
about_step_of pool q r Inactive = tt
about_step_of pool q r Running = about_step q (outcome_in r pool)
about_step_of pool q r Held = tt

pub records_after_step : (pool : List ℕ) (m : Records) (n id : ℕ) (r new : Rec) → map.get m id ≡ Some r → n ≡ id → new ≡ record_after (effect_on (Step pool) n (Some r) true) r → map.insert m id new ≡ records_by (effect_in (Step pool) id m) m
records_after_step pool m n id r new here named is =
    ap (map.insert m id) (is ∙ ap (λ e. record_after e r) (same_step pool m n id r here named))
    ∙ records_by-held m id r (effect_in (Step pool) id m) here (subst (IsAbout id) (same_step pool m id id r here refl) (about_step_of pool id r r.control.status))

pub outbox_after_step : (pool : List ℕ) (m : Records) (n id : ℕ) (r : Rec) (outbox : List Due) → map.get m id ≡ Some r → n ≡ id → outbox ++ dues_of_effect (effect_on (Step pool) n (Some r) true) r.control.pending ≡ outbox_by (effect_in (Step pool) id m) m outbox
outbox_after_step pool m n id r outbox here named =
    ap (λ e. outbox ++ dues_of_effect e r.control.pending) (same_step pool m n id r here named)
    ∙ outbox_by-held m id r outbox (effect_in (Step pool) id m) here (subst (IsAbout id) (same_step pool m id id r here refl) (about_step_of pool id r r.control.status))

-- a failure files nothing
pub outbox-failed : (m : Records) (outbox : List Due) (e : Effect) (why : StartFailure) → e ≡ Kept (Failed why) → outbox ≡ outbox_by e m outbox
outbox-failed m outbox e why is = sym (ap (λ x. outbox_by x m outbox) is ∙ append-nil outbox)

-- what is dropped is overtaken
pub outbox-unloaded : (m : Records) (id : ℕ) (r : Rec) (outbox : List Due) → map.get m id ≡ Some r → outbox ++ failed_completion r.control.pending ≡ outbox_by (Unloaded id) m outbox
outbox-unloaded m id r outbox here = sym (ap (λ o. outbox ++ failed_completion_of o) here)

-- ---- a change that was decided

module _ (m : Records) (id : ℕ) (change : Change) where
  pub records-changed : (r new : Rec) → map.get m id ≡ Some r → new ≡ record_by change r → map.insert m id new ≡ records_by (Changed id change) m
  records-changed r new here is = ap (map.insert m id) is ∙ sym (ap (λ o. with_change o id change m) here)

  pub outbox-changed : (r : Rec) (outbox : List Due) → map.get m id ≡ Some r → outbox ++ dues_by_change change r.control.pending ≡ outbox_by (Changed id change) m outbox
  outbox-changed r outbox here = sym (ap (λ o. outbox ++ dues_of change o) here)

-- ---- what was decided, if no procedure has the id

module _ (m : Records) (id : ℕ) (none : map.get m id ≡ None) where
  pub records-kept : (d : B.Decision) → m ≡ records_by (effect_decided id d) m
  records-kept decision.Unloads = sym (remove-same m id none)
  records-kept (decision.Changes change) = sym (ap (λ o. with_change o id (change_of change) m) none)

  pub outbox-kept : (outbox : List Due) (d : B.Decision) → outbox ≡ outbox_by (effect_decided id d) m outbox
  outbox-kept outbox decision.Unloads = sym (ap (λ o. outbox ++ failed_completion_of o) none ∙ append-nil outbox)
  outbox-kept outbox (decision.Changes change) = sym (ap (λ o. outbox ++ dues_of (change_of change) o) none ∙ append-nil outbox)

-- ---- the slab

module _ {T : Type 0} where
  -- a table that is not full has room for one more record
  pub few_from_room : (s : Slab T) (m : Records) → slab_len s ≡ map.len m → is_full m ≡ false → slab_len s < MAX_PROCEDURES
  few_from_room s m same free = let few : map.len m < MAX_PROCEDURES = grind (arith, nat_tests) in omega (arith, same, few)

  pub IsSound-removed : (id_of : T → ℕ) (s t : Slab T) (k : ℕ) → IsSound id_of s → Updates s t k None → slab_len t + 1 ≡ slab_len s → t.capacity ≡ s.capacity → IsSound id_of t
  IsSound-removed id_of s t k sound u fewer same = record {
    distinct = IsDistinct-removed id_of (λ (x : T). x) s t k sound.distinct u;
    few = let few = sound.few in omega arith;
    room = subst (λ n. MAX_PROCEDURES ≤ n) (sym same) sound.room;
  }
