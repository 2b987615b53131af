-- The history that a closed book leaves.
use Rattle.std.specs.Prelude.{◌≡◌, ℕ, List, map, take, drop, slice_get, Some}
use Rattle.ocp_world.specs.World.{World}
use Rattle.ocp_core.specs.Log.{Log, world_of}
use Rattle.ocp_core.specs.Marks.{MarkedEntry, mark_in, entries_with_marks}
use Rattle.ocp_seats.specs.Seats.{SeatContents}
use Rattle.ocp_seats.specs.Closing.{IsReceipted}

-- the world in which an entry of the journal happens: the one that the entries before it leave
abbrev pub world_before : Log → ℕ → World
world_before log index = world_of (record log { entries = take index log.entries })

-- The entries since the start are one history. The receipts of each seat are its entries, in their
-- order, each is by a seat, and there are no others. Each mark, and so each answer that a seat got,
-- is the one in the world before its entry.
pub record IsHistory (log : Log) (start : ℕ) (seats : List SeatContents) : Type 0 where
  pub entries :
      map (λ (m : MarkedEntry). m.entry) (drop start (entries_with_marks log))
      ≡ drop start log.entries
  pub receipts : IsReceipted (drop start (entries_with_marks log)) seats
  pub marks : (index : ℕ) (m : MarkedEntry) → slice_get (entries_with_marks log) index ≡ Some m →
      m.mark ≡ mark_in (world_before log index) m.entry
