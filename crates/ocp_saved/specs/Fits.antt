-- What fits the fields of a checkpoint.
use Rattle.std.specs.Prelude.{◌≡◌, ℕ, ◌*◌, ◌/◌, ◌<◌, ◌≤◌, ◌^◌, List, length, Option, Some, None}
use Rattle.std.specs.List.{AllByRecursion}
use Rattle.pus_fields.specs.Acknowledgement.{flags_of}
use Rattle.space_packet.specs.declared.range.TheConstants.{SEQUENCE_COUNTS}
use Rattle.obcp_types.specs.declared.pending.Due.{Due}
use Rattle.obcp_types.specs.declared.pending.PendingOrigin.{PendingOrigin}
use Rattle.ocp_profile.specs.declared.limits.TheConstants.{MAX_APID, MAX_POOL_WORDS}
use Rattle.ocp_profile.specs.declared.profile.Profile.{Profile}
use Rattle.bpf_moves.specs.declared.step.TheConstants.{REGISTERS}
use Rattle.bpf_step.specs.declared.frame.Frame.{Frame}
use Rattle.bpf_step.specs.declared.frame.TheConstants.{MAX_LOCAL_CALLS}
use Rattle.bpf_step.specs.Machine.{State}
use Rattle.ocp_pool.specs.declared.mailbox.TheConstants.{MAX_MAILBOX_WORDS}
use Rattle.ocp_table.specs.declared.control.Pending.{Pending}
use Rattle.ocp_table.specs.declared.control.Pending.TheVariants as pending
use Rattle.ocp_table.specs.declared.record.TheConstants.{MAX_BREAKPOINTS}
use Rattle.ocp_table.specs.declared.table.TheConstants.{OUTBOX_PLACES}
use Rattle.ocp_table.specs.Records.{Rec}
use Rattle.ocp_saved.specs.InOrder.{HasRegions}
use Rattle.ocp_saved.specs.declared.fields.TheConstants.{MAX_FLAGS}
use Rattle.ocp_saved.specs.declared.header.Header.{Header}

-- a word of 64 bits, and a place of 16
abbrev pub IsWord : ℕ → Type 0
IsWord n = n < 2 ^ 64

abbrev pub IsSlot : ℕ → Type 0
IsSlot n = n < 2 ^ 16

pub record IsHeader (h : Header) : Type 0 where
  pub apid : h.apid ≤ MAX_APID
  pub count : h.count < SEQUENCE_COUNTS
  pub events : h.events < 2 ^ 63
  pub entries : h.entries ≤ h.events

pub record IsPool (pool : List ℕ) : Type 0 where
  pub some : 1 ≤ length pool
  pub few : length pool ≤ MAX_POOL_WORDS
  pub words : AllByRecursion IsWord pool

-- the request has four octets, and its flags are the four that there are
pub record IsOrigin (o : PendingOrigin) : Type 0 where
  pub event : o.event < 2 ^ 64
  pub four : length o.request ≡ 4
  pub source : o.source < 2 ^ 16
  pub ack : flags_of o.ack ≤ MAX_FLAGS

abbrev pub IsDue : Due → Type 0
IsDue d = IsOrigin d.origin

pub record IsOutbox (outbox : List Due) : Type 0 where
  pub few : length outbox ≤ OUTBOX_PLACES
  pub dues : AllByRecursion IsDue outbox

abbrev pub IsPending : Pending → Type 0
IsPending pending.Nothing = Unit {0}
IsPending (pending.Stop step from) = (step < 2 ^ 16) × IsOrigin from
IsPending (pending.Suspend step from) = (step < 2 ^ 16) × IsOrigin from

abbrev pub IsRemaining : Option ℕ → Type 0
IsRemaining None = Unit {0}
IsRemaining (Some left) = left < 2 ^ 32

pub record IsFrame (f : Frame) : Type 0 where
  pub r6 : IsWord f.r6
  pub r7 : IsWord f.r7
  pub r8 : IsWord f.r8
  pub r9 : IsWord f.r9
  pub r10 : IsWord f.r10
  pub place : IsSlot f.place

-- a machine of a profile: eleven registers, at most seven frames, each number fits its field
pub record IsMachine (profile : Profile) (s : State) : Type 0 where
  pub eleven : length s.registers ≡ REGISTERS
  pub words : AllByRecursion IsWord s.registers
  pub place : IsSlot s.place
  pub few : length s.frames ≤ MAX_LOCAL_CALLS
  pub frames : AllByRecursion IsFrame s.frames
  pub memory : HasRegions profile s.memory

-- whole slots, as many as 16 bits count
pub record IsImage (image : List ℕ) : Type 0 where
  pub whole : 8 * (length image / 8) ≡ length image
  pub few : length image / 8 < 2 ^ 16

pub record IsRecord (profile : Profile) (r : Rec) : Type 0 where
  pub pending : IsPending r.control.pending
  pub remaining : IsRemaining r.remaining
  pub few_breakpoints : length r.breakpoints ≤ MAX_BREAKPOINTS
  pub breakpoints : AllByRecursion IsSlot r.breakpoints
  pub few_words : length r.mailbox ≤ MAX_MAILBOX_WORDS
  pub words : AllByRecursion IsWord r.mailbox
  pub image : IsImage r.image
  pub machine : IsMachine profile r.machine

abbrev pub IsEntry : Profile → ℕ × Rec → Type 0
IsEntry profile e = (e.0 < 2 ^ 16) × IsRecord profile e.1
