-- What a request and a drain answer to C.
use Rattle.std.specs.Prelude.{◌≡◌, ℕ, ◌==◌, false, nat_le, if◌then◌else◌, List, [], length, Ok, Err}
use Rattle.ocp_world.specs.World.{Event}
use Rattle.ocp_world.specs.After.{Answer, Requested, Stepped, Commanded, Written}
use Rattle.ocp_c.specs.declared.status.Status.{Status}
use Rattle.ocp_c.specs.declared.status.Status.TheVariants as status
use Rattle.ocp_reports.specs.Packets.{together}
use Rattle.ocp_flight.specs.Flown.{Flown}
use Rattle.ocp_flight.specs.Calls.{answer_in, flown_after}
use Rattle.ocp_c.specs.Packets.{buffer_after}
use Rattle.ocp_c.specs.Statuses.{number_of, status_of_fault}

-- the status of an answer
abbrev pub status_of_reply : Answer → Status
status_of_reply (Requested (Ok reports)) = status.Done
status_of_reply (Requested (Err fault)) = status_of_fault fault
status_of_reply (Stepped outcome) = status.Done
status_of_reply (Commanded result) = status.Done
status_of_reply (Written result) = status.Done

-- a buffer that is too short is refused before anything else
abbrev pub replies : ℕ → ℕ → Answer → Status
replies least room answer =
    if nat_le least room then status_of_reply answer else status.BufferTooSmall

-- the reports of an answer
abbrev pub packets_in : Answer → List (List ℕ)
packets_in (Requested (Ok reports)) = reports
packets_in (Requested (Err fault)) = []
packets_in (Stepped outcome) = []
packets_in (Commanded result) = []
packets_in (Written result) = []

-- their octets, one report after the other
abbrev pub reports_in : Answer → List ℕ
reports_in answer = together (packets_in answer)

-- an event with room for its reports, whose least is given: how many octets they have, and the
-- engine and the buffer then
abbrev pub IsReplied : ℕ → Event → Flown → List ℕ → ℕ → Flown → List ℕ → Type 0
IsReplied least event flown buffer count flown' buffer' =
    (replies least (length buffer) (answer_in flown event) ≡ status.Done)
    × (count ≡ length (reports_in (answer_in flown event)))
    × (flown' ≡ flown_after flown event)
    × (buffer' ≡ buffer_after (reports_in (answer_in flown event)) buffer)

-- one that is refused leaves both
abbrev pub IsRefused : ℕ → Event → Flown → List ℕ → Status → Flown → List ℕ → Type 0
IsRefused least event flown buffer why flown' buffer' =
    (replies least (length buffer) (answer_in flown event) ≡ why)
    × ((number_of why == 0) ≡ false) × (flown' ≡ flown) × (buffer' ≡ buffer)
