-- What octets are read as, from left to right, or the first fault that is met. A field is a value
-- and the octets after it.
use Rattle.std.specs.Prelude.{◌≡◌, ℕ, zero, suc, ◌*◌, ◌-◌, ◌/◌, ◌^◌, ◌==◌, nat_lt, if◌then◌else◌, Bool, true, false, List, [], ◌∷◌, ◌++◌, length, take, drop, slice_index, Option, Some, None, Result, Ok, Err}
use Rattle.byteorder.specs.Endian.{big_number}
use Rattle.pus_fields.specs.Acknowledgement.{flags}
use Rattle.space_packet.specs.declared.range.TheConstants.{SEQUENCE_COUNTS}
use Rattle.ocp_profile.specs.declared.profile.Profile.{Profile}
use Rattle.ocp_profile.specs.declared.profile.Profile.TheVariants.{One, Two}
use Rattle.ocp_profile.specs.declared.limits.TheConstants.{MAX_APID, MAX_POOL_WORDS}
use Rattle.obcp_types.specs.declared.failure.CompletionFailure.{CompletionFailure}
use Rattle.obcp_types.specs.declared.failure.CompletionFailure.TheVariants.{Overtaken}
use Rattle.obcp_types.specs.declared.pending.Due.{Due}
use Rattle.obcp_types.specs.declared.pending.PendingOrigin.{PendingOrigin}
use Rattle.obcp_types.specs.declared.status.Status.{Status}
use Rattle.obcp_types.specs.declared.status.Status.TheVariants.{Inactive, Running, Held}
use Rattle.ocp_regions.specs.Memory.{Octets}
use Rattle.ocp_saved.specs.InOrder.{memory_length, memory_with}
use Rattle.ocp_regions.specs.declared.fault.AccessFault.TheVariants.{AccessOutside, WriteToArguments}
use Rattle.bpf_moves.specs.declared.step.TheConstants.{REGISTERS}
use Rattle.bpf_step.specs.declared.answer.MachineFault.TheVariants.{Access, CallDepth}
use Rattle.bpf_step.specs.declared.frame.Frame.{Frame}
use Rattle.bpf_step.specs.declared.frame.TheConstants.{MAX_LOCAL_CALLS}
use Rattle.bpf_step.specs.Machine.{State}
use Rattle.ocp_pool.specs.declared.call.PoolFault.TheVariants.{BadPoolIndex}
use Rattle.ocp_pool.specs.declared.mailbox.TheConstants.{MAX_MAILBOX_WORDS}
use Rattle.ocp_table.specs.declared.control.Cause.{Cause}
use Rattle.ocp_table.specs.declared.control.Cause.TheVariants as cause
use Rattle.ocp_table.specs.declared.control.Control.{Control}
use Rattle.ocp_table.specs.declared.control.Pending.{Pending}
use Rattle.ocp_table.specs.declared.control.Pending.TheVariants as pending
use Rattle.ocp_table.specs.declared.fault.ProcedureFault.TheVariants.{Machine, Pool, BudgetSpent}
use Rattle.ocp_table.specs.declared.record.TheConstants.{MAX_BREAKPOINTS}
use Rattle.ocp_table.specs.declared.table.TheConstants.{OUTBOX_PLACES}
use Rattle.ocp_table.specs.Records.{Rec}
use Rattle.ocp_saved.specs.declared.header.Header.{Header}
use Rattle.ocp_saved.specs.declared.fault.RestoreFault.{RestoreFault}
use Rattle.ocp_saved.specs.declared.fault.RestoreFault.TheVariants as fault
use Rattle.ocp_saved.specs.declared.fields.TheConstants.{MAX_FLAGS}

infixl 10 ◌>>=◌
abbrev pub ◌>>=◌ : {A B : Type 0} → Result A RestoreFault → (A → Result B RestoreFault)
    → Result B RestoreFault
(Ok x) >>= f = f x
(Err e) >>= f = Err e

-- what a function answers, seen by `view`, is what is read
abbrev pub Gives : {X Y : Type 0} → (X → Y) → Result X RestoreFault → Result Y RestoreFault
    → Type 0
Gives view (Ok x) read = read ≡ Ok (view x)
Gives view (Err e) read = read ≡ Err e

-- ---- numbers, and items one after another

-- a number of n octets
abbrev pub number_at : ℕ → List ℕ → Result (ℕ × List ℕ) RestoreFault
number_at n octets =
    if nat_lt (length octets) n then Err fault.Short else Ok (big_number n octets, drop n octets)

-- a number of n octets that is at most `most`
unfoldable pub number_up_to : ℕ → ℕ → RestoreFault → List ℕ → Result (ℕ × List ℕ) RestoreFault
number_up_to n most why octets = do
  x ← number_at n octets
  if nat_lt most x.0 then Err why else Ok x

-- `count` items of `size` octets each, one after the other
unfoldable pub items_in : {X : Type 0} → (List ℕ → X) → ℕ → ℕ → List ℕ → List X
items_in read size zero octets = []
items_in read size (suc count) octets =
    read octets ∷ items_in read size count (drop size octets)

abbrev pub items_at : {X : Type 0} → (List ℕ → X) → ℕ → ℕ → List ℕ
    → Result (List X × List ℕ) RestoreFault
items_at read size count octets =
    if nat_lt (length octets) (size * count) then Err fault.Short
    else Ok (items_in read size count octets, drop (size * count) octets)

abbrev pub words_in : ℕ → List ℕ → List ℕ
words_in count octets = items_in (big_number 8) 8 count octets

abbrev pub words_at : ℕ → List ℕ → Result (List ℕ × List ℕ) RestoreFault
words_at count octets = items_at (big_number 8) 8 count octets

-- `count` times one more item, each added to what was read before
unfoldable pub more_times : {S : Type 0} → (S → List ℕ → Result (S × List ℕ) RestoreFault) → ℕ → S
    → List ℕ → Result (S × List ℕ) RestoreFault
more_times more zero s octets = Ok (s, octets)
more_times more (suc count) s octets = do
  next ← more s octets
  more_times more count next.0 next.1

-- ---- header and pool

abbrev pub version_at : List ℕ → Result (ℕ × List ℕ) RestoreFault
version_at octets = do
  x ← number_at 1 octets
  if x.0 == 1 then Ok x else Err fault.Version

abbrev pub profile_of : ℕ → List ℕ → Result (Profile × List ℕ) RestoreFault
profile_of number rest =
    if number == 1 then Ok (One, rest)
    else if number == 2 then Ok (Two, rest)
    else Err fault.Profile

unfoldable pub profile_at : List ℕ → Result (Profile × List ℕ) RestoreFault
profile_at octets = do
  x ← number_at 1 octets
  profile_of x.0 x.1

unfoldable pub header_at : List ℕ → Result (Header × List ℕ) RestoreFault
header_at octets = do
  version ← version_at octets
  profile ← profile_at version.1
  apid ← number_up_to 2 MAX_APID fault.Apid profile.1
  count ← number_up_to 2 (SEQUENCE_COUNTS - 1) fault.Count apid.1
  events ← number_up_to 8 (2 ^ 63 - 1) fault.Events count.1
  entries ← number_up_to 8 events.0 fault.Entries events.1
  Ok (
    record {
      profile = profile.0;
      apid = apid.0;
      count = count.0;
      events = events.0;
      entries = entries.0;
    },
    entries.1,
  )

-- the octets of the words of a pool, which has one at least
unfoldable pub pool_part_at : List ℕ → Result (List ℕ × List ℕ) RestoreFault
pool_part_at octets = do
  count ← number_up_to 2 MAX_POOL_WORDS fault.Pool octets
  if count.0 == 0 then Err fault.Pool
      else if nat_lt (length count.1) (8 * count.0) then Err fault.Short
      else Ok (take (8 * count.0) count.1, drop (8 * count.0) count.1)

-- 1 to 256 words, with their number (16 bits) before them
unfoldable pub pool_at : List ℕ → Result (List ℕ × List ℕ) RestoreFault
pool_at octets = do
  part ← pool_part_at octets
  Ok (words_in (length part.0 / 8) part.0, part.1)

-- ---- completions

-- an origin, whose flags are the four that there are; else it is refused for this reason
abbrev pub origin_in : List ℕ → PendingOrigin
origin_in octets = record {
  event = big_number 8 octets;
  request = slice_index octets 8 ∷ slice_index octets 9 ∷ slice_index octets 10
      ∷ slice_index octets 11 ∷ [];
  source = big_number 2 (drop 12 octets);
  ack = flags (slice_index octets 14);
}

unfoldable pub origin_at : RestoreFault → List ℕ → Result (PendingOrigin × List ℕ) RestoreFault
origin_at why octets =
    if nat_lt (length octets) 15 then Err fault.Short
    else if nat_lt MAX_FLAGS (slice_index octets 14) then Err why
    else Ok (origin_in octets, drop 15 octets)

abbrev pub failure_of : ℕ → Option CompletionFailure
failure_of number = if number == 0 then None else Some Overtaken

unfoldable pub due_at : List ℕ → Result (Due × List ℕ) RestoreFault
due_at octets = do
  origin ← origin_at fault.Ack octets
  number ← number_up_to 1 1 fault.Due origin.1
  Ok (record { origin = origin.0; failure = failure_of number.0 }, number.1)

-- one more completion
abbrev pub more_dues_at : List Due → List ℕ → Result (List Due × List ℕ) RestoreFault
more_dues_at dues octets = due_at octets >>= λ due. Ok (dues ++ due.0 ∷ [], due.1)

unfoldable pub outbox_at : List ℕ → Result (List Due × List ℕ) RestoreFault
outbox_at octets = do
  count ← number_up_to 1 OUTBOX_PLACES fault.Outbox octets
  more_times more_dues_at count.0 [] count.1

-- ---- what requests and instructions set of a procedure

abbrev pub status_of : ℕ → List ℕ → Result (Status × List ℕ) RestoreFault
status_of number rest =
    if number == 0 then Ok (Inactive, rest)
    else if number == 1 then Ok (Running, rest)
    else if number == 2 then Ok (Held, rest)
    else Err fault.Status

unfoldable pub status_at : List ℕ → Result (Status × List ℕ) RestoreFault
status_at octets = do
  x ← number_at 1 octets
  status_of x.0 x.1

-- a step (16 bits) and an origin
unfoldable pub step_and_origin_at : List ℕ → Result ((ℕ × PendingOrigin) × List ℕ) RestoreFault
step_and_origin_at octets = do
  step ← number_at 2 octets
  origin ← origin_at fault.Pending step.1
  Ok ((step.0, origin.0), origin.1)

abbrev pub pending_of : ℕ → List ℕ → Result (Pending × List ℕ) RestoreFault
pending_of kind rest =
    if kind == 0 then Ok (pending.Nothing, rest)
    else if kind == 1 then (step_and_origin_at rest >>= λ x. Ok (pending.Stop x.0.0 x.0.1, x.1))
    else if kind == 2 then (step_and_origin_at rest >>= λ x. Ok (pending.Suspend x.0.0 x.0.1, x.1))
    else Err fault.Pending

unfoldable pub pending_at : List ℕ → Result (Pending × List ℕ) RestoreFault
pending_at octets = do
  kind ← number_at 1 octets
  pending_of kind.0 kind.1

unfoldable pub flag_at : List ℕ → Result (Bool × List ℕ) RestoreFault
flag_at octets = do
  x ← number_up_to 1 1 fault.Flag octets
  Ok (x.0 == 1, x.1)

abbrev pub cause_of : ℕ → List ℕ → Result (Cause × List ℕ) RestoreFault
cause_of number rest =
    if number == 0 then Ok (cause.Nothing, rest)
    else if number == 1 then Ok (cause.Exited, rest)
    else if number == 2 then Ok (cause.Stopped, rest)
    else if number == 3 then Ok (cause.Aborted, rest)
    else if number == 4 then Ok (cause.Fault (Machine (Access AccessOutside)), rest)
    else if number == 5 then Ok (cause.Fault (Machine (Access WriteToArguments)), rest)
    else if number == 6 then Ok (cause.Fault (Machine CallDepth), rest)
    else if number == 7 then Ok (cause.Fault (Pool BadPoolIndex), rest)
    else if number == 8 then Ok (cause.Fault BudgetSpent, rest)
    else Err fault.Cause

unfoldable pub cause_at : List ℕ → Result (Cause × List ℕ) RestoreFault
cause_at octets = do
  x ← number_at 1 octets
  cause_of x.0 x.1

-- the control, and the trace flag
unfoldable pub control_at : List ℕ → Result ((Control × Bool) × List ℕ) RestoreFault
control_at octets = do
  status ← status_at octets
  pending ← pending_at status.1
  pass ← flag_at pending.1
  traced ← flag_at pass.1
  cause ← cause_at traced.1
  Ok (
    (
      record {
        status = status.0;
        pending = pending.0;
        pass = pass.0;
        cause = cause.0;
      },
      traced.0,
    ),
    cause.1,
  )

abbrev pub left_of : Bool → List ℕ → Result (Option ℕ × List ℕ) RestoreFault
left_of false rest = Ok (None, rest)
left_of true rest = number_at 4 rest >>= λ x. Ok (Some x.0, x.1)

unfoldable pub remaining_at : List ℕ → Result (Option ℕ × List ℕ) RestoreFault
remaining_at octets = do
  flag ← flag_at octets
  left_of flag.0 flag.1

unfoldable pub breakpoints_at : List ℕ → Result (List ℕ × List ℕ) RestoreFault
breakpoints_at octets = do
  count ← number_up_to 1 MAX_BREAKPOINTS fault.Breakpoints octets
  items_at (big_number 2) 2 count.0 count.1

unfoldable pub mailbox_at : List ℕ → Result (List ℕ × List ℕ) RestoreFault
mailbox_at octets = do
  count ← number_up_to 1 MAX_MAILBOX_WORDS fault.Mailbox octets
  words_at count.0 count.1

unfoldable pub image_at : List ℕ → Result (List ℕ × List ℕ) RestoreFault
image_at octets = do
  slots ← number_at 2 octets
  if nat_lt (length slots.1) (8 * slots.0) then Err fault.Short
      else Ok (take (8 * slots.0) slots.1, drop (8 * slots.0) slots.1)

-- ---- the machine of a procedure

unfoldable pub frame_in : List ℕ → Frame
frame_in octets = record {
  r6 = big_number 8 octets;
  r7 = big_number 8 (drop 8 octets);
  r8 = big_number 8 (drop 16 octets);
  r9 = big_number 8 (drop 24 octets);
  r10 = big_number 8 (drop 32 octets);
  place = big_number 2 (drop 40 octets);
}

-- frames with their number (8 bits) before them
unfoldable pub frames_at : List ℕ → Result (List Frame × List ℕ) RestoreFault
frames_at octets = do
  count ← number_up_to 1 MAX_LOCAL_CALLS fault.Frames octets
  items_at frame_in 42 count.0 count.1

-- the memory of a profile
abbrev pub memory_at : Profile → List ℕ → Result (Octets × List ℕ) RestoreFault
memory_at profile octets =
    if nat_lt (length octets) (memory_length profile) then Err fault.Short
    else Ok (
      memory_with (take (memory_length profile) octets),
      drop (memory_length profile) octets,
    )

unfoldable pub machine_at : Profile → List ℕ → Result (State × List ℕ) RestoreFault
machine_at profile octets = do
  registers ← words_at REGISTERS octets
  place ← number_at 2 registers.1
  frames ← frames_at place.1
  memory ← memory_at profile frames.1
  Ok (
    record {
      registers = registers.0;
      memory = memory.0;
      place = place.0;
      frames = frames.0;
    },
    memory.1,
  )

-- ---- a procedure

unfoldable pub procedure_at : Profile → List ℕ → Result ((ℕ × Rec) × List ℕ) RestoreFault
procedure_at profile octets = do
  id ← number_at 2 octets
  control ← control_at id.1
  remaining ← remaining_at control.1
  breakpoints ← breakpoints_at remaining.1
  mailbox ← mailbox_at breakpoints.1
  image ← image_at mailbox.1
  machine ← machine_at profile image.1
  Ok (
    (
      id.0,
      record {
        image = image.0;
        machine = machine.0;
        mailbox = mailbox.0;
        control = control.0.0;
        breakpoints = breakpoints.0;
        traced = control.0.1;
        remaining = remaining.0;
      },
    ),
    machine.1,
  )
