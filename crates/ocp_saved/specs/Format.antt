-- The octets of a checkpoint, version 1. Numbers are big-endian, and lists have their number of
-- items before them.
use Rattle.std.specs.Prelude.{ℕ, ◌+◌, ◌/◌, Bool, true, false, List, [], ◌∷◌, ◌++◌, length, Option, Some, None}
use Rattle.std.specs.List.{flat_map}
use Rattle.std.specs.FinMap.{entries}
use Rattle.byteorder.specs.Endian.{big_bytes}
use Rattle.pus_fields.specs.Acknowledgement.{flags_of}
use Rattle.obcp_types.specs.Codes.{status_code}
use Rattle.obcp_types.specs.declared.failure.CompletionFailure.{CompletionFailure}
use Rattle.obcp_types.specs.declared.pending.Due.{Due}
use Rattle.obcp_types.specs.declared.pending.PendingOrigin.{PendingOrigin}
use Rattle.ocp_profile.specs.Numbers.{number_of}
use Rattle.ocp_saved.specs.InOrder.{octets_in_order}
use Rattle.bpf_step.specs.declared.frame.Frame.{Frame}
use Rattle.bpf_step.specs.Machine.{State}
use Rattle.ocp_table.specs.declared.control.Cause.{Cause}
use Rattle.ocp_table.specs.declared.control.Cause.TheVariants as cause
use Rattle.ocp_table.specs.declared.control.Control.{Control}
use Rattle.ocp_table.specs.declared.control.Pending.{Pending}
use Rattle.ocp_table.specs.declared.control.Pending.TheVariants as pending
use Rattle.ocp_table.specs.Faults.{fault_number}
use Rattle.ocp_table.specs.Records.{Rec, Records}
use Rattle.ocp_saved.specs.declared.header.Header.{Header}

-- ---- the engine

-- what is kept of an engine: the header, the words of its pool, the completions that wait, the
-- oldest first, and its procedures
pub record Checkpoint : Type 0 where
  pub header : Header
  pub pool : List ℕ
  pub outbox : List Due
  pub records : Records

-- the version (8 bits), the profile (8), the application process identifier (16), the sequence
-- count of the next report (16), how many events there were (64), and how many entries of the
-- journal (64)
abbrev pub header_octets : Header → List ℕ
header_octets h =
    1 ∷ number_of h.profile ∷ (big_bytes 2 h.apid
    ++ (big_bytes 2 h.count ++ (big_bytes 8 h.events ++ big_bytes 8 h.entries)))

-- words of 64 bits
abbrev pub words_octets : List ℕ → List ℕ
words_octets words = flat_map (big_bytes 8) words

-- the number of words (16 bits), and the words
abbrev pub pool_octets : List ℕ → List ℕ
pool_octets pool = big_bytes 2 (length pool) ++ words_octets pool

-- ---- completions

-- where a completion goes: how many events there were before (64 bits), the first four octets of
-- the request, its source (16) and its flags (8)
abbrev pub origin_octets : PendingOrigin → List ℕ
origin_octets o =
    big_bytes 8 o.event ++ (o.request ++ (big_bytes 2 o.source ++ (flags_of o.ack ∷ [])))

abbrev pub failure_number : Option CompletionFailure → ℕ
failure_number None = 0
failure_number (Some failure) = 1

-- the origin, and 1 if something else overtook it (8 bits)
unfoldable pub due_octets : Due → List ℕ
due_octets d = origin_octets d.origin ++ (failure_number d.failure ∷ [])

-- the number of completions (8 bits), and the completions
abbrev pub outbox_octets : List Due → List ℕ
outbox_octets outbox = length outbox ∷ flat_map due_octets outbox

-- ---- what requests and instructions set of a procedure

-- 0 if nothing is pending; 1 for a stop and 2 for a suspend, with the step (16 bits) and the origin
abbrev pub pending_octets : Pending → List ℕ
pending_octets pending.Nothing = 0 ∷ []
pending_octets (pending.Stop step from) = 1 ∷ (big_bytes 2 step ++ origin_octets from)
pending_octets (pending.Suspend step from) = 2 ∷ (big_bytes 2 step ++ origin_octets from)

abbrev pub bit : Bool → ℕ
bit false = 0
bit true = 1

-- 3 and the number of the fault, if it is one
abbrev pub cause_number : Cause → ℕ
cause_number cause.Nothing = 0
cause_number cause.Exited = 1
cause_number cause.Stopped = 2
cause_number cause.Aborted = 3
cause_number (cause.Fault fault) = 3 + fault_number fault

-- status (8 bits), what is pending, pass flag (8), trace flag (8) and cause (8)
unfoldable pub control_octets : Control → Bool → List ℕ
control_octets c traced =
    status_code c.status ∷ (pending_octets c.pending
    ++ (bit c.pass ∷ bit traced ∷ cause_number c.cause ∷ []))

-- 0 if there is no budget; else 1, and what is left of it (32 bits)
abbrev pub remaining_octets : Option ℕ → List ℕ
remaining_octets None = 0 ∷ []
remaining_octets (Some left) = 1 ∷ big_bytes 4 left

-- the number of breakpoints (8 bits), and their places (16)
abbrev pub breakpoints_octets : List ℕ → List ℕ
breakpoints_octets places = length places ∷ flat_map (big_bytes 2) places

-- the number of words (8 bits), and the words, the oldest first
abbrev pub mailbox_octets : List ℕ → List ℕ
mailbox_octets words = length words ∷ words_octets words

-- the number of slots (16 bits), and the image
abbrev pub image_octets : List ℕ → List ℕ
image_octets image = big_bytes 2 (length image / 8) ++ image

-- ---- the machine of a procedure

-- what a local call has saved: R6 to R10, and the place (16 bits)
abbrev pub frame_octets : Frame → List ℕ
frame_octets f =
    words_octets (f.r6 ∷ f.r7 ∷ f.r8 ∷ f.r9 ∷ f.r10 ∷ []) ++ big_bytes 2 f.place

-- R0 to R10, the place (16 bits), how many local calls are open (8), what each has saved, the
-- oldest first, and the memory, the octet at the lowest address first
unfoldable pub machine_octets : State → List ℕ
machine_octets s =
    words_octets s.registers ++ (big_bytes 2 s.place
    ++ (length s.frames ∷ (flat_map frame_octets s.frames ++ octets_in_order s.memory)))

-- ---- the table

-- the id (16 bits), and then what the record has
unfoldable pub procedure_octets : ℕ × Rec → List ℕ
procedure_octets e =
    big_bytes 2 e.0 ++ (control_octets e.1.control e.1.traced ++ (remaining_octets e.1.remaining
    ++ (breakpoints_octets e.1.breakpoints ++ (mailbox_octets e.1.mailbox
    ++ (image_octets e.1.image ++ machine_octets e.1.machine)))))

-- all procedures, the one with the least id first
unfoldable pub procedures_octets : Records → List ℕ
procedures_octets m = flat_map procedure_octets (entries m)

-- the number of procedures (8 bits), and the procedures
abbrev pub table_octets : Records → List ℕ
table_octets m = length (entries m) ∷ procedures_octets m

-- ---- all

unfoldable pub checkpoint_octets : Checkpoint → List ℕ
checkpoint_octets c =
    header_octets c.header
    ++ (pool_octets c.pool ++ (outbox_octets c.outbox ++ table_octets c.records))
