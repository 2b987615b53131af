-- The largest size of the reports of a request, and of a drain (ECSS-E-ST-70-41C, 8.1 and 8.18).
use Rattle.std.specs.Prelude.{◌≤◌, ℕ, List, length, All}
use Rattle.ocp_world.specs.World.{Request, Drain}
use Rattle.ocp_flight.specs.Bounded.{IsBounded}
use Rattle.ocp_flight.specs.Flown.{Flown}
use Rattle.ocp_flight.specs.Calls.{answer_in}
use Rattle.ocp_c.specs.Replies.{packets_in}

-- at most `count` packets, each of at most `most` octets
pub record AreWithin (count most : ℕ) (packets : List (List ℕ)) : Type 0 where
  pub few : length packets ≤ count
  pub short : All (λ packet. length packet ≤ most) packets

-- the law: a request of an engine that began in a bounded world has at most four reports, the
-- longest a status report of 16 procedures
abbrev pub RequestsHaveFewReports : Type 0
RequestsHaveFewReports =
    (flown : Flown) (by time : ℕ) (octets : List ℕ) → IsBounded flown.base →
    AreWithin 4 68 (packets_in (answer_in flown (Request by time octets)))

-- the law: a drain of it has at most as many reports as the outbox has room for, the longest one of
-- a completion that failed
abbrev pub DrainsHaveFewReports : Type 0
DrainsHaveFewReports =
    (flown : Flown) (by time : ℕ) → IsBounded flown.base →
    AreWithin 64 25 (packets_in (answer_in flown (Drain by time)))
