-- The walk through the decision: what holds of each form of effect holds of the effect of every directive.
use Rattle.std.proofs.Common.{◌≡◌, ℕ, ◌+◌, ◌≤◌, Bool, true, false, cond, length, List, Option, Some, None, refl, arith}
use Rattle.std.specs.Prelude.{Result, Ok, Err, nat_le}
use Rattle.std.proofs.lemmas.Bool.Decides.{nat_tests}
use Rattle.bpf_types.specs.declared.line.Line.{Line}
use Rattle.obcp_types.specs.declared.status.Status.{Status}
use Rattle.obcp_types.specs.declared.status.Status.TheVariants.{Inactive, Running, Held}
use Rattle.obcp_types.specs.declared.failure.StartFailure.{StartFailure}
use Rattle.obcp_types.specs.declared.failure.StartFailure.TheVariants.{AlreadyLoaded, TableFull, NotLoaded, NotInactive, NotActive, NotRunning, NotHeld, StopPending, MailboxFull, OutboxFull}
use Rattle.ocp_profile.specs.declared.profile.Profile.{Profile}
use Rattle.ocp_loader.specs.declared.fault.LoadFault.{LoadFault}
use Rattle.ocp_loader.specs.LoadResult.{load_result}
use Rattle.ocp_pool.specs.declared.mailbox.TheConstants.{MAX_MAILBOX_WORDS}
use Rattle.ocp_table.specs.declared.control.Cause.TheVariants.{Stopped, Aborted}
use Rattle.ocp_table.specs.declared.control.Pending.{Pending}
use Rattle.obcp_types.specs.declared.pending.PendingOrigin.{PendingOrigin}
use Rattle.ocp_table.specs.declared.control.Pending.TheVariants as pending
use Rattle.ocp_table.specs.declared.answers.InstructionOutcome.{InstructionOutcome}
use Rattle.ocp_table.specs.Records.{Rec}
use Rattle.ocp_table.specs.Effects.{Effect, Loaded, Unloaded, Changed, Kept, Started, Sent, Pended, Quit, Resumed, Stepped, Failed}
use Rattle.ocp_table.specs.RequestTable.{Directive, Load, Unload, Activate, Stop, Suspend, Resume, Abort, Communicate, Step, Changes, Fails, postponement, communication, transition}
use Rattle.ocp_table.specs.Deciding.{bad_code, effect_of_load, outcome_in, effect_of_step, effect_by, effect_on}

-- what has to hold of each form, with what is known when it comes
pub record Holds (P : Directive → Effect → Type 0) (id : ℕ) (o : Option Rec) (full : Bool) : Type 0 where
  pub failed : (d : Directive) (failure : StartFailure) → P d (Kept (Failed failure))
  pub loaded : (profile : Profile) (image : List ℕ) → o ≡ None → full ≡ false → P (Load profile image) (Loaded profile id image)
  pub unloaded : (r : Rec) → o ≡ Some r → r.control.status ≡ Inactive → P Unload (Unloaded id)
  pub started : (budget : ℕ) (arguments : List ℕ) (r : Rec) → o ≡ Some r → r.control.status ≡ Inactive → P (Activate budget arguments) (Changed id (Started budget arguments))
  pub sends : (words : List ℕ) (r : Rec) → o ≡ Some r → length r.mailbox + length words ≤ MAX_MAILBOX_WORDS → P (Communicate words) (Changed id (Sent words))
  pub stop_pends : (s : ℕ) (from : PendingOrigin) (r : Rec) → o ≡ Some r → r.control.status ≡ Running → P (Stop s from false) (Changed id (Pended (pending.Stop s from)))
  pub suspend_pends : (s : ℕ) (from : PendingOrigin) (r : Rec) → o ≡ Some r → r.control.status ≡ Running → P (Suspend s from false) (Changed id (Pended (pending.Suspend s from)))
  pub stopped : (s : ℕ) (from : PendingOrigin) (no_room : Bool) (r : Rec) → o ≡ Some r → r.control.status ≡ Held → P (Stop s from no_room) (Changed id (Quit Stopped))
  pub aborted : (r : Rec) → o ≡ Some r → P Abort (Changed id (Quit Aborted))
  pub resumed : (r : Rec) → o ≡ Some r → r.control.status ≡ Held → P Resume (Changed id Resumed)
  pub stepped : (pool : List ℕ) (outcome : InstructionOutcome) (r : Rec) → o ≡ Some r → r.control.status ≡ Running → outcome_in r pool ≡ Some outcome → P (Step pool) (Changed id (Stepped outcome))

each_load : (P : Effect → Type 0) (id : ℕ) (full : Bool) (result : Result (List (Option Line)) LoadFault) (profile : Profile) (image : List ℕ) → ((failure : StartFailure) → P (Kept (Failed failure))) → (full ≡ false → P (Loaded profile id image)) → P (effect_of_load full result profile id image)
each_load P id true result profile image failed loaded = failed TableFull
each_load P id false (Ok lines) profile image failed loaded = loaded refl
each_load P id false (Err fault) profile image failed loaded = failed (bad_code fault)

each_step : (P : Effect → Type 0) (id : ℕ) (o : Option InstructionOutcome) → P (Kept (Failed NotRunning)) → ((outcome : InstructionOutcome) → o ≡ Some outcome → P (Changed id (Stepped outcome))) → P (effect_of_step o id)
each_step P id (Some outcome) failed stepped = stepped outcome refl
each_step P id None failed stepped = failed

each_sent : (P : Effect → Type 0) (id : ℕ) (o : Option Rec) (full : Bool) (words : List ℕ) (there : ℕ) → P (Kept (Failed MailboxFull)) → (there + length words ≤ MAX_MAILBOX_WORDS → P (Changed id (Sent words))) → P (effect_by (communication words there) id o full)
each_sent P id o full words there failed fits =
    elim (nat_le (there + length words) MAX_MAILBOX_WORDS) as (λ b. nat_le (there + length words) MAX_MAILBOX_WORDS ≡ b → P (effect_by (cond b (Changes (Sent words)) (Fails MailboxFull)) id o full)) [
      | true ↦ λ is. fits (grind (arith, nat_tests))
      | false ↦ λ is. failed
    ] refl

module _ (P : Directive → Effect → Type 0) (id : ℕ) (r : Rec) (full : Bool) (h : Holds P id (Some r) full) where
  each_stop : (s : ℕ) (from : PendingOrigin) (no_room : Bool) → r.control.status ≡ Running → P (Stop s from no_room) (effect_by (postponement no_room (pending.Stop s from)) id (Some r) full)
  each_stop s from true is = h.failed (Stop s from true) OutboxFull
  each_stop s from false is = h.stop_pends s from r refl is

  each_suspend : (s : ℕ) (from : PendingOrigin) (no_room : Bool) → r.control.status ≡ Running → P (Suspend s from no_room) (effect_by (postponement no_room (pending.Suspend s from)) id (Some r) full)
  each_suspend s from true is = h.failed (Suspend s from true) OutboxFull
  each_suspend s from false is = h.suspend_pends s from r refl is

  each_pending : (s : ℕ) (from : PendingOrigin) (no_room : Bool) (p : Pending) (there : ℕ) → r.control.status ≡ Running → P (Suspend s from no_room) (effect_by (transition (Suspend s from no_room) (Some Running) p there) id (Some r) full)
  each_pending s from no_room pending.Nothing there is = each_suspend s from no_room is
  each_pending s from no_room (pending.Suspend t older) there is = each_suspend s from no_room is
  each_pending s from no_room (pending.Stop t older) there is = h.failed (Suspend s from no_room) StopPending

  each_words : (words : List ℕ) → P (Communicate words) (effect_by (communication words (length r.mailbox)) id (Some r) full)
  each_words words = each_sent (P (Communicate words)) id (Some r) full words (length r.mailbox) (h.failed (Communicate words) MailboxFull) (λ fits. h.sends words r refl fits)

  each_of : (d : Directive) (s : Status) → r.control.status ≡ s → P d (effect_by (transition d (Some s) r.control.pending (length r.mailbox)) id (Some r) full)
  each_of (Load profile image) Inactive is = h.failed (Load profile image) AlreadyLoaded
  each_of (Load profile image) Running is = h.failed (Load profile image) AlreadyLoaded
  each_of (Load profile image) Held is = h.failed (Load profile image) AlreadyLoaded
  each_of Unload Inactive is = h.unloaded r refl is
  each_of Unload Running is = h.failed Unload NotInactive
  each_of Unload Held is = h.failed Unload NotInactive
  each_of (Activate budget arguments) Inactive is = h.started budget arguments r refl is
  each_of (Activate budget arguments) Running is = h.failed (Activate budget arguments) NotInactive
  each_of (Activate budget arguments) Held is = h.failed (Activate budget arguments) NotInactive
  each_of (Stop s from no_room) Inactive is = h.failed (Stop s from no_room) NotActive
  each_of (Stop s from no_room) Running is = each_stop s from no_room is
  each_of (Stop s from no_room) Held is = h.stopped s from no_room r refl is
  each_of (Suspend s from no_room) Inactive is = h.failed (Suspend s from no_room) NotRunning
  each_of (Suspend s from no_room) Running is = each_pending s from no_room r.control.pending (length r.mailbox) is
  each_of (Suspend s from no_room) Held is = h.failed (Suspend s from no_room) NotRunning
  each_of Resume Inactive is = h.failed Resume NotHeld
  each_of Resume Running is = h.failed Resume NotHeld
  each_of Resume Held is = h.resumed r refl is
  each_of Abort Inactive is = h.failed Abort NotActive
  each_of Abort Running is = h.aborted r refl
  each_of Abort Held is = h.aborted r refl
  each_of (Communicate words) Inactive is = h.failed (Communicate words) NotActive
  each_of (Communicate words) Running is = each_words words
  each_of (Communicate words) Held is = each_words words
  each_of (Step pool) Inactive is = h.failed (Step pool) NotRunning
  each_of (Step pool) Running is = each_step (P (Step pool)) id (outcome_in r pool) (h.failed (Step pool) NotRunning) (λ outcome e. h.stepped pool outcome r refl is e)
  each_of (Step pool) Held is = h.failed (Step pool) NotRunning

pub each : (P : Directive → Effect → Type 0) (id : ℕ) (o : Option Rec) (full : Bool) → Holds P id o full → (d : Directive) → P d (effect_on d id o full)
each P id (Some r) full h d = each_of P id r full h d r.control.status refl
each P id None full h (Load profile image) = each_load (P (Load profile image)) id full (load_result profile image) profile image (h.failed (Load profile image)) (h.loaded profile image refl)
each P id None full h Unload = h.failed Unload NotLoaded
each P id None full h (Activate budget arguments) = h.failed (Activate budget arguments) NotLoaded
each P id None full h (Stop s from no_room) = h.failed (Stop s from no_room) NotLoaded
each P id None full h (Suspend s from no_room) = h.failed (Suspend s from no_room) NotLoaded
each P id None full h Resume = h.failed Resume NotLoaded
each P id None full h Abort = h.failed Abort NotLoaded
each P id None full h (Communicate words) = h.failed (Communicate words) NotLoaded
each P id None full h (Step pool) = h.failed (Step pool) NotLoaded
