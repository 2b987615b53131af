-- A procedure that was saved: the record that it becomes, and the first fault for which a table
-- refuses it.
use Rattle.std.specs.Prelude.{ℕ, suc, ◌+◌, ◌==◌, ◌&&◌, ◌||◌, Bool, true, false, not, nat_lt, if◌then◌else◌, List, [], ◌∷◌, length, Option, Some, None, is_some, Result, Ok, Err}
use Rattle.std.specs.List.{list_all}
use Rattle.bpf_types.specs.declared.line.Line.{Line}
use Rattle.obcp_types.specs.declared.pending.Due.{Due}
use Rattle.obcp_types.specs.declared.status.Status.{Status}
use Rattle.obcp_types.specs.declared.status.Status.TheVariants.{Inactive, Running, Held}
use Rattle.ocp_profile.specs.declared.profile.Profile.{Profile}
use Rattle.ocp_profile.specs.declared.profile.Profile.TheVariants as profile
use Rattle.ocp_regions.specs.Memory.{memory_of}
use Rattle.ocp_loader.specs.declared.fault.LoadFault.{LoadFault}
use Rattle.ocp_loader.specs.LoadResult.{load_result}
use Rattle.ocp_loader.specs.LineAt.{line_of}
use Rattle.bpf_step.specs.declared.frame.Frame.{Frame}
use Rattle.bpf_step.specs.declared.frame.TheConstants.{MAX_LOCAL_CALLS}
use Rattle.bpf_step.specs.Machine.{State, read}
use Rattle.bpf_step.specs.Reach.{frame_pointer}
use Rattle.ocp_pool.specs.declared.mailbox.TheConstants.{MAX_MAILBOX_WORDS}
use Rattle.ocp_table.specs.declared.control.Control.{Control}
use Rattle.ocp_table.specs.declared.control.Pending.{Pending}
use Rattle.ocp_table.specs.declared.control.Pending.TheVariants as pending
use Rattle.ocp_table.specs.declared.record.TheConstants.{MAX_BREAKPOINTS}
use Rattle.ocp_table.specs.declared.saved.Saved.{Saved}
use Rattle.ocp_table.specs.declared.saved.SavedFault.{SavedFault}
use Rattle.ocp_table.specs.declared.saved.SavedFault.TheVariants as fault
use Rattle.ocp_table.specs.declared.table.TheConstants.{OUTBOX_PLACES}
use Rattle.ocp_table.specs.Records.{Rec, Records, Procedures}
use Rattle.ocp_table.specs.Outbox.{places_of, pendings}
use Rattle.ocp_table.specs.Deciding.{is_full}
use Rattle.ocp_table.specs.Shown.{statuses_of}
use Rattle.ocp_table.specs.Slices.{is_running_status}

-- ---- the record

abbrev pub machine_of_saved : Saved → State
machine_of_saved s = record {
  registers = s.registers;
  memory = memory_of s.memory.stack.now s.memory.arguments.now s.memory.work.now;
  place = s.place;
  frames = s.frames.now;
}

-- all that is kept of it
abbrev pub record_of_saved : Saved → Rec
record_of_saved s = record {
  image = s.code.now;
  machine = machine_of_saved s;
  mailbox = s.mailbox.now;
  control = s.control;
  breakpoints = s.breakpoints.now;
  traced = s.traced;
  remaining = s.remaining;
}

-- ---- what is tested

-- the identifier is above each that is there
abbrev pub is_above : ℕ → Records → Bool
is_above id m = list_all (λ row. nat_lt row.id id) (statuses_of m)

-- there is a place for what is pending, beside what is pending and what waits
abbrev pub lacks_places : Procedures → Pending → Bool
lacks_places t pending =
    nat_lt OUTBOX_PLACES (length t.outbox + pendings t.records + places_of pending)

-- running or held
abbrev pub is_active : Status → Bool
is_active Inactive = false
is_active Running = true
is_active Held = true

abbrev pub is_pending : Pending → Bool
is_pending pending.Nothing = false
is_pending (pending.Stop s from) = true
is_pending (pending.Suspend s from) = true

-- something is pending for an inactive procedure
abbrev pub pends_inactive : Control → Bool
pends_inactive c = is_pending c.pending && not (is_active c.status)

-- one that does not run has the pass flag
abbrev pub passes_unrun : Control → Bool
passes_unrun c = c.pass && not (is_running_status c.status)

-- a budget is set, and the profile has none
abbrev pub has_needless_budget : Profile → Option ℕ → Bool
has_needless_budget profile.One remaining = is_some remaining
has_needless_budget profile.Two remaining = false

-- each place is above the one before it
abbrev pub rises_from : ℕ → List ℕ → Bool
rises_from before [] = true
rises_from before (place ∷ places) = nat_lt before place && rises_from place places

abbrev pub rises : List ℕ → Bool
rises [] = true
rises (place ∷ places) = rises_from place places

-- there are over eight breakpoints, or they do not rise
abbrev pub are_no_breakpoints : List ℕ → Bool
are_no_breakpoints places = nat_lt MAX_BREAKPOINTS (length places) || not (rises places)

-- an instruction begins at the slot
abbrev pub is_place : List ℕ → ℕ → Bool
is_place image slot = is_some (line_of image slot)

-- the machine is at an instruction of the image, and returns to instructions of it
abbrev pub stands_in : List ℕ → State → Bool
stands_in image s =
    is_place image s.place && list_all (λ (f : Frame). is_place image f.place) s.frames

-- R10 of each frame is the frame pointer of its depth
abbrev pub are_framed : ℕ → List Frame → Bool
are_framed depth [] = true
are_framed depth (frame ∷ frames) =
    (frame.r10 == frame_pointer depth) && are_framed (suc depth) frames

abbrev pub is_framed : State → Bool
is_framed s = (read s 10 == frame_pointer (length s.frames)) && are_framed 0 s.frames

-- ---- the first fault, in the order of the fields

-- of the table: it is full, the identifier does not rise, or a completion has no place
abbrev pub fault_of_table : ℕ → Pending → Procedures → Option SavedFault
fault_of_table id pending t =
    if is_full t.records then Some fault.TableFull
    else if not (is_above id t.records) then Some fault.Order
    else if lacks_places t pending then Some fault.Outbox
    else None

-- of what requests set
abbrev pub fault_of_control : Profile → Rec → Option SavedFault
fault_of_control profile r =
    if pends_inactive r.control then Some fault.Pending
    else if passes_unrun r.control then Some fault.Pass
    else if has_needless_budget profile r.remaining then Some fault.Budget
    else if are_no_breakpoints r.breakpoints then Some fault.Breakpoints
    else if nat_lt MAX_MAILBOX_WORDS (length r.mailbox) then Some fault.Mailbox
    else None

-- of what stands in an image that may be run
abbrev pub fault_of_machine : Rec → Option SavedFault
fault_of_machine r =
    if not (list_all (is_place r.image) r.breakpoints) then Some fault.Breakpoints
    else if nat_lt MAX_LOCAL_CALLS (length r.machine.frames) then Some fault.Frames
    else if not (stands_in r.image r.machine) then Some fault.Place
    else if not (is_framed r.machine) then Some fault.FramePointer
    else None

-- of the image, and of what stands in it
abbrev pub fault_of_program : Result (List (Option Line)) LoadFault → Rec → Option SavedFault
fault_of_program (Err f) r = Some (fault.Image f)
fault_of_program (Ok lines) r = fault_of_machine r

abbrev pub first_of : Option SavedFault → Option SavedFault → Option SavedFault
first_of (Some f) rest = Some f
first_of None rest = rest

-- why a table refuses the record under this identifier, if it does
abbrev pub saved_fault : ℕ → Rec → Procedures → Option SavedFault
saved_fault id r t =
    first_of (fault_of_table id r.control.pending t)
    (first_of (fault_of_control t.profile r)
    (fault_of_program (load_result t.profile r.image) r))

-- ---- the completions that wait

-- with these beside what is pending there are over 64
abbrev pub has_no_room_for : List Due → Records → Bool
has_no_room_for waiting m = nat_lt OUTBOX_PLACES (length waiting + pendings m)

-- a table whose outbox is replaced
abbrev pub with_outbox : List Due → Procedures → Procedures
with_outbox outbox t = record t { outbox = outbox }
