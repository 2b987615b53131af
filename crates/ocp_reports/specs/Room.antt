-- How much room the packet of a report takes at most.
use Rattle.std.specs.Prelude.{◌≤◌, ℕ, ◌+◌, List, length}
use Rattle.verification.specs.declared.notice.Notice.{Notice}
use Rattle.verification.specs.declared.notice.Notice.TheVariants as notice
use Rattle.ocp_reports.specs.declared.buffer.TheConstants.{MAX_PACKETS, MAX_PACKET_OCTETS}
use Rattle.ocp_reports.specs.Packets.{together}

-- one packet more, of at most `octets` octets, has room after these
pub record HasRoomAfter (packets : List (List ℕ)) (octets : ℕ) : Type 0 where
  pub few : length packets + 1 ≤ MAX_PACKETS
  pub room : length (together packets) + octets ≤ MAX_PACKET_OCTETS

-- at most one packet was added, of at most `octets` octets
pub record GrowsWithin (old new : List (List ℕ)) (octets : ℕ) : Type 0 where
  pub few : length new ≤ length old + 1
  pub short : length (together new) ≤ length (together old) + octets

-- the most octets of a notice's packet: of a status report of 16 procedures, of a failed start with
-- a bad code, and of any other notice
abbrev pub most_octets : Notice → ℕ
most_octets notice.Answer = 68
most_octets (notice.NotStarted failure) = 28
most_octets notice = 25
