-- Which events are refused, and that a refused one leaves the world.
use Rattle.std.proofs.Common.{◌≡◌, ℕ, Bool, true, false, ◌+◌, cond, List, [], ◌∷◌, ◌++◌, length, Option, Some, None, refl, sym, ap, subst, ◌∙◌}
use Rattle.std.specs.Prelude.{Result, Ok, Err, IfOk, IfErr, is_some, not, nat_le, nat_lt}
use Rattle.std.proofs.lemmas.List.{append-nil}
use Rattle.pus_fields.specs.declared.fault.Discard.{Discard}
use Rattle.pus_fields.specs.declared.fault.TcFault.{TcFault}
use Rattle.pus_fields.specs.declared.fault.TcFault.TheVariants.{Discarded, Rejected}
use Rattle.pus_fields.specs.Telecommand.{Telecommand}
use Rattle.pus_fields.specs.TelecommandFaults.{telecommand_of}
use Rattle.obcp_types.specs.declared.pending.Due.{Due}
use Rattle.obcp_types.specs.declared.failure.RequestFault.{RequestFault}
use Rattle.obcp_types.specs.declared.failure.StartFailure.{StartFailure}
use Rattle.obcp_types.specs.declared.failure.StartFailure.TheVariants as failure
use Rattle.obcp_types.specs.declared.status.Status.TheVariants.{Inactive, Running, Held}
use Rattle.obcp_messages.specs.declared.request.Request.{Request as Command}
use Rattle.obcp_messages.specs.declared.request.Request.TheVariants as command
use Rattle.ocp_table.specs.declared.answers.InstructionOutcome.{InstructionOutcome}
use Rattle.ocp_table.specs.declared.answers.InstructionOutcome.TheVariants as did
use Rattle.ocp_table.specs.declared.answers.StepOutcome.{StepOutcome}
use Rattle.ocp_table.specs.declared.answers.StepOutcome.TheVariants as S
use Rattle.ocp_table.specs.Records.{Rec, Records, Procedures}
use Rattle.ocp_table.specs.Effects.{Loaded, Unloaded, Changed, Kept, Drained, WordPut, Started, Stepped as Instructed, Unasked, Failed, step_outcome, failure_of, refusal_of}
use Rattle.ocp_table.specs.Effects as table
use Rattle.ocp_table.specs.RequestTable as directive
use Rattle.ocp_table.specs.RequestTable.{transition}
use Rattle.std.specs.FinMap.{get}
use Rattle.ocp_table.specs.Deciding.{effect_in, effect_on, effect_by, effect_of_step, outcome_at}
use Rattle.ocp_table.specs.Deciding.{is_full as is_full_table}
use Rattle.ocp_loader.specs.LineAt.{line_of}
use Rattle.ocp_table.specs.declared.record.TheConstants.{MAX_BREAKPOINTS}
use Rattle.ocp_debug.specs.declared.command.Command.{Command as DebugCommand}
use Rattle.ocp_debug.specs.declared.command.Command.TheVariants.{SetBreak, ClearBreak, SetTrace}
use Rattle.ocp_debug.specs.declared.command.DebugFault.{DebugFault}
use Rattle.ocp_debug.specs.declared.command.DebugFault.TheVariants as debug
use Rattle.ocp_debug.specs.declared.commands.Decided.{Decided}
use Rattle.ocp_debug.specs.Mirror.Settings.{Decides}
use Rattle.ocp_debug.specs.Commands.{is_set, fault_on, effect_by as debug_effect_by, result_of}
use Rattle.ocp_reports.specs.declared.origin.Origin.{Origin}
use Rattle.ocp_reports.specs.Origin.{origin_of}
use Rattle.ocp_world.specs.World.{World, Event, Request, Step, Debug, Drain, Put}
use Rattle.ocp_world.specs.Effect.{Effect, Commands}
use Rattle.ocp_world.specs.Requests.{command_effect, service_effect, request_effect, command_of}
use Rattle.ocp_world.specs.Instructions.{instruction_effect}
use Rattle.ocp_world.specs.Drains.{drain_effect}
use Rattle.ocp_world.specs.Puts.{put_effect_if}
use Rattle.ocp_world.specs.declared.answers.EngineFault.TheVariants as engine
use Rattle.ocp_world.specs.declared.answers.PutFault.TheVariants as put
use Rattle.ocp_world.specs.After.{Answer, Requested, Stepped, Commanded, Written, after, world_after, answer_by, is_accepted}
use Rattle.ocp_world.specs.Mirror.Answering.{discard_of, IsDiscard, IsRefusal, IsCommanded, IsUndue}

true_false : true ≡ false → ⊥
true_false e = cc

some_none : {X : Type 0} {x : X} → Some x ≡ None → ⊥
some_none e = cc

-- a world with no further completion and no further trace record
untouched : (w : World) → record w { outbox = w.outbox ++ []; traces = w.traces ++ [] } ≡ w
untouched w i = record w { outbox = append-nil w.outbox i; traces = append-nil w.traces i }

-- ---- a request

-- what holds of each answer with reports holds of that to a request
module _ (test : Answer → Bool) (b : Bool) (told : (reports : List (List ℕ)) → test (Requested (Ok reports)) ≡ b) (origin : Origin) (w : World) where
  told_request : (request : Command) → test (answer_by (command_effect request origin w).reply w) ≡ b
  told_request (command.Load id code) = told _
  told_request other = told _

  told_service : (r : Result Command RequestFault) → test (answer_by (service_effect r origin w).reply w) ≡ b
  told_service (Ok request) = told_request request
  told_service (Err fault) = told _

accepted_service : (origin : Origin) (w : World) (r : Result Command RequestFault) → is_accepted (answer_by (service_effect r origin w).reply w) ≡ true
accepted_service = told_service is_accepted true (λ reports. refl)

-- octets that are read are discarded, or an accepted request
discard_read : (r : Result Telecommand TcFault) (time : ℕ) (w : World) → IsDiscard (answer_by (request_effect r time w).reply w) (discard_of r)
discard_read (Ok telecommand) time w = accepted_service (origin_of telecommand time) w (command_of w.profile telecommand)
discard_read (Err (Rejected rejection request)) time w = refl
discard_read (Err (Discarded cause)) time w = refl

pub request_discard : (r : Result Telecommand TcFault) (found : Option Discard) → found ≡ discard_of r → (w : World) (by time : ℕ) (octets : List ℕ) → r ≡ telecommand_of w.apid octets → IsDiscard (after w (Request by time octets)).answer found
request_discard r found is w by time octets read =
    let P : Option Discard → Type 0 = λ o. IsDiscard (after w (Request by time octets)).answer o in
    subst P (ap discard_of (sym read) ∙ sym is) (discard_read (telecommand_of w.apid octets) time w)

kept_octets : (r : Result Telecommand TcFault) (time : ℕ) (w : World) → is_accepted (answer_by (request_effect r time w).reply w) ≡ false → world_after (request_effect r time w) w ≡ w
kept_octets (Ok telecommand) time w h = absurd (true_false (sym (accepted_service (origin_of telecommand time) w (command_of w.profile telecommand)) ∙ h))
kept_octets (Err (Rejected rejection request)) time w h = absurd (true_false h)
kept_octets (Err (Discarded cause)) time w h = untouched w

-- ---- an instruction

-- an instruction that is done changes a record, or it fails
abbrev pub IsInstruction : table.Effect → Type 0
IsInstruction (Loaded profile id image) = ⊥
IsInstruction (Unloaded id) = ⊥
IsInstruction (Changed id (Instructed outcome)) = Unit {0}
IsInstruction (Changed id change) = ⊥
IsInstruction Drained = ⊥
IsInstruction (WordPut index value) = ⊥
IsInstruction (Kept Unasked) = ⊥
IsInstruction (Kept (Failed failure)) = Unit {0}

step_by_outcome : (id : ℕ) (o : Option InstructionOutcome) → IsInstruction (effect_of_step o id)
step_by_outcome id None = tt
step_by_outcome id (Some outcome) = tt

step_on : (pool : List ℕ) (id : ℕ) (o : Option Rec) (full : Bool) → IsInstruction (effect_on (directive.Step pool) id o full)
step_on pool id None full = tt
step_on pool id (Some r) full =
    elim r.control.status as (λ s. IsInstruction (effect_by (transition (directive.Step pool) (Some s) r.control.pending (length r.mailbox)) id (Some r) full)) [
      | Inactive ↦ tt
      | Running ↦ step_by_outcome id (outcome_at (Some r) pool)
      | Held ↦ tt
    ]

pub is_instruction : (pool : List ℕ) (m : Records) (id : ℕ) → IsInstruction (effect_in (directive.Step pool) id m)
is_instruction pool m id = step_on pool id (get m id) (is_full_table m)

kept_step : (effect : table.Effect) → IsInstruction effect → (w : World) → is_accepted (answer_by (instruction_effect effect).reply w) ≡ false → world_after (instruction_effect effect) w ≡ w
kept_step (Changed id (Instructed did.Broke)) is w h = absurd (true_false h)
kept_step (Changed id (Instructed did.Ran)) is w h = absurd (true_false h)
kept_step (Changed id (Instructed (did.Called call))) is w h = absurd (true_false h)
kept_step (Changed id (Instructed did.Ended)) is w h = absurd (true_false h)
kept_step (Changed id (Instructed (did.Faulted number))) is w h = absurd (true_false h)
kept_step (Kept (Failed failure)) is w h = λ i. record w { outbox = append-nil w.outbox i; events = cond (h i) (w.events + 1) w.events; traces = append-nil w.traces i }
kept_step effect is w h = absurd is

-- ---- a debugger's command

-- what a command does, by why it is refused, if it is
abbrev debug_effect_of : Option DebugFault → DebugCommand → ℕ → Effect
debug_effect_of fault command id = record { on_records = debug_effect_by fault command id; reply = Commands (result_of fault) }

kept_debug : (fault : Option DebugFault) (command : DebugCommand) (id : ℕ) (w : World) → is_accepted (Commanded (result_of fault)) ≡ false → world_after (debug_effect_of fault command id) w ≡ w
kept_debug None command id w h = absurd (true_false h)
kept_debug (Some fault) command id w h = untouched w

debug_answer : (fault : Option DebugFault) (command : DebugCommand) (id : ℕ) (m : Records) (w : World) (by : ℕ) → m ≡ w.records → fault_on command (get m id) ≡ fault → (after w (Debug by id command)).answer ≡ Commanded (result_of fault)
debug_answer fault command id m w by same is = ap (λ n. Commanded (result_of (fault_on command (get n id)))) (sym same) ∙ ap (λ o. Commanded (result_of o)) is

-- a command is refused for the fault that was found, or it is done
pub debug_answered : (decided : Result Decided DebugFault) (command : DebugCommand) (id : ℕ) (t : Procedures) (w : World) (by : ℕ) → t.records ≡ w.records → IfOk decided (λ (d : Decided). Decides t id command d.setting) → IfErr decided (λ fault. fault_on command (get t.records id) ≡ Some fault) → IsCommanded (after w (Debug by id command)).answer decided
debug_answered (Ok d) command id t w by same ok err = debug_answer None command id t.records w by same ok.fault
debug_answered (Err fault) command id t w by same ok err = debug_answer (Some fault) command id t.records w by same err

-- ---- a drain

kept_drain : (time : ℕ) (due : List Due) (w : World) → is_accepted (answer_by (drain_effect time due).reply w) ≡ false → world_after (drain_effect time due) w ≡ w
kept_drain time [] w h = untouched w
kept_drain time (due ∷ dues) w h = absurd (true_false h)

-- a drain of what is due is accepted
pub due_accepted : (answer : Answer) (due : Bool) → IsUndue answer due → due ≡ true → is_accepted answer ≡ true
due_accepted answer true is on = is
due_accepted answer false is on = absurd (true_false (sym on))

-- ---- a write of a pool word

kept_put : (there : Bool) (index value : ℕ) (w : World) → is_accepted (answer_by (put_effect_if there index value).reply w) ≡ false → world_after (put_effect_if there index value) w ≡ w
kept_put true index value w h = absurd (true_false h)
kept_put false index value w h = untouched w

-- an index that is there, and one that is not
pub put_there : (w : World) (by index value : ℕ) → nat_lt index (length w.pool) ≡ true → (after w (Put by index value)).answer ≡ Written (Ok tt)
put_there w by index value is = ap (λ b. answer_by (put_effect_if b index value).reply w) is

pub put_nowhere : (w : World) (by index value : ℕ) → nat_lt index (length w.pool) ≡ false → (after w (Put by index value)).answer ≡ Written (Err put.BadPoolIndex)
put_nowhere w by index value is = ap (λ b. answer_by (put_effect_if b index value).reply w) is

-- ---- any event

pub refused_keeps : (w : World) (e : Event) → is_accepted (after w e).answer ≡ false → (after w e).world ≡ w
refused_keeps w (Request by time octets) h = kept_octets (telecommand_of w.apid octets) time w h
refused_keeps w (Step by id) h = kept_step (effect_in (directive.Step w.pool) id w.records) (is_instruction w.pool w.records id) w h
refused_keeps w (Debug by id command) h = kept_debug (fault_on command (get w.records id)) command id w h
refused_keeps w (Drain by time) h = kept_drain time w.outbox w h
refused_keeps w (Put by index value) h = kept_put (nat_lt index (length w.pool)) index value w h

-- ---- why an instruction event is refused

failed_outcome : (failure : StartFailure) → is_accepted (Stepped (step_outcome (Kept (Failed failure)))) ≡ false
failed_outcome failure.NotLoaded = refl
failed_outcome other = refl

pub refused_step : (effect : table.Effect) → IsInstruction effect → is_some (failure_of effect) ≡ true → is_accepted (Stepped (step_outcome effect)) ≡ false
refused_step (Changed id (Instructed outcome)) is h = absurd (true_false (sym h))
refused_step (Kept (Failed failure)) is h = failed_outcome failure
refused_step effect is h = absurd is

-- ---- no answer is that of a full journal

abbrev is_full : Answer → Bool
is_full (Requested (Err engine.JournalFull)) = true
is_full (Stepped S.JournalFull) = true
is_full (Commanded (Err debug.JournalFull)) = true
is_full (Written (Err put.JournalFull)) = true
is_full answer = false

roomy_octets : (r : Result Telecommand TcFault) (time : ℕ) (w : World) → is_full (answer_by (request_effect r time w).reply w) ≡ false
roomy_octets (Ok telecommand) time w = told_service is_full false (λ reports. refl) (origin_of telecommand time) w (command_of w.profile telecommand)
roomy_octets (Err (Rejected rejection request)) time w = refl
roomy_octets (Err (Discarded cause)) time w = refl

roomy_drain : (time : ℕ) (due : List Due) (w : World) → is_full (answer_by (drain_effect time due).reply w) ≡ false
roomy_drain time [] w = refl
roomy_drain time (due ∷ dues) w = refl

roomy_failure : (failure : StartFailure) → is_full (Stepped (step_outcome (Kept (Failed failure)))) ≡ false
roomy_failure failure.NotLoaded = refl
roomy_failure other = refl

-- an instruction event is refused in the world as in the table, and for no full journal
step_told : (effect : table.Effect) → IsInstruction effect → IsRefusal (Stepped (step_outcome effect)) (refusal_of effect) × (is_full (Stepped (step_outcome effect)) ≡ false)
step_told (Changed id (Instructed did.Broke)) is = (refl, refl)
step_told (Changed id (Instructed did.Ran)) is = (refl, refl)
step_told (Changed id (Instructed (did.Called call))) is = (refl, refl)
step_told (Changed id (Instructed did.Ended)) is = (refl, refl)
step_told (Changed id (Instructed (did.Faulted number))) is = (refl, refl)
step_told (Kept (Failed failure)) is = ((failed_outcome failure, refl), roomy_failure failure)
step_told effect is = absurd is

pub refused_so : (m : Records) (by id : ℕ) (w : World) → m ≡ w.records → (o : Option StepOutcome) → ((pool : List ℕ) → o ≡ refusal_of (effect_in (directive.Step pool) id m)) → IsRefusal (after w (Step by id)).answer o
refused_so m by id w same o told =
    let here : o ≡ refusal_of (effect_in (directive.Step w.pool) id w.records) = told w.pool ∙ ap (λ n. refusal_of (effect_in (directive.Step w.pool) id n)) same in
    subst (IsRefusal (after w (Step by id)).answer) (sym here) (step_told (effect_in (directive.Step w.pool) id w.records) (is_instruction w.pool w.records id)).0

-- a fault of a command that a world decides is not that the journal is full
abbrev IsRoomy : Option DebugFault → Type 0
IsRoomy fault = is_full (Commanded (result_of fault)) ≡ false

roomy_place : (there set full : Bool) → IsRoomy (cond (not there) (Some debug.NotAnInstruction) (cond set (Some debug.AlreadySet) (cond full (Some debug.BreaksFull) None)))
roomy_place false set full = refl
roomy_place true true full = refl
roomy_place true false true = refl
roomy_place true false false = refl

roomy_unset : (set : Bool) → IsRoomy (cond set None (Some debug.NotSet))
roomy_unset true = refl
roomy_unset false = refl

roomy_fault : (command : DebugCommand) (o : Option Rec) → IsRoomy (fault_on command o)
roomy_fault command None = refl
roomy_fault (SetBreak place) (Some r) = roomy_place (is_some (line_of r.image place)) (is_set place r.breakpoints) (nat_le MAX_BREAKPOINTS (length r.breakpoints))
roomy_fault (ClearBreak place) (Some r) = roomy_unset (is_set place r.breakpoints)
roomy_fault (SetTrace on) (Some r) = refl

roomy_put : (there : Bool) (index value : ℕ) (w : World) → is_full (answer_by (put_effect_if there index value).reply w) ≡ false
roomy_put true index value w = refl
roomy_put false index value w = refl

roomy : (w : World) (e : Event) → is_full (after w e).answer ≡ false
roomy w (Request by time octets) = roomy_octets (telecommand_of w.apid octets) time w
roomy w (Step by id) = (step_told (effect_in (directive.Step w.pool) id w.records) (is_instruction w.pool w.records id)).1
roomy w (Debug by id command) = roomy_fault command (get w.records id)
roomy w (Drain by time) = roomy_drain time w.outbox w
roomy w (Put by index value) = roomy_put (nat_lt index (length w.pool)) index value w

pub request_has_room : (w : World) (e : Event) → (after w e).answer ≡ Requested (Err engine.JournalFull) → ⊥
request_has_room w e is = true_false (ap is_full (sym is) ∙ roomy w e)

pub step_has_room : (w : World) (e : Event) → (after w e).answer ≡ Stepped S.JournalFull → ⊥
step_has_room w e is = true_false (ap is_full (sym is) ∙ roomy w e)

pub command_has_room : (w : World) (e : Event) → (after w e).answer ≡ Commanded (Err debug.JournalFull) → ⊥
command_has_room w e is = true_false (ap is_full (sym is) ∙ roomy w e)

pub put_has_room : (w : World) (e : Event) → (after w e).answer ≡ Written (Err put.JournalFull) → ⊥
put_has_room w e is = true_false (ap is_full (sym is) ∙ roomy w e)
