-- The words of the clauses of an engine for flight, each passed on from the file that defines it or
-- from the words of the engine's clauses.
pub use Rattle.ocp_table.specs.Slices.{slice_of}
pub use Rattle.ocp_debug.specs.Memory.{Reads}
pub use Rattle.ocp_world.specs.Mirror.State.{with_packets}
pub use Rattle.ocp_core.specs.Clauses.{MAX_APID, MAX_POOL_WORDS, MAX_CAPACITY}
pub use Rattle.ocp_core.specs.Clauses.{World, Event, Step, Debug, Put, Log, expand}
pub use Rattle.ocp_core.specs.Clauses.{Answer, Answers, Requested, Stepped, Commanded, Written}
pub use Rattle.ocp_core.specs.Clauses.{IsNextRunning, Runs, get, view_at, last_traces}
pub use Rattle.ocp_flight.specs.Bounded.{IsBounded}
pub use Rattle.ocp_flight.specs.Flown.{Flown, opened_flown, world_of, first}
pub use Rattle.ocp_flight.specs.Flown.{held_entries, held_count, room}
pub use Rattle.ocp_flight.specs.Flown.{release_answer, release_after}
pub use Rattle.ocp_flight.specs.Flown.{entry_answer, entry_written}
pub use Rattle.ocp_flight.specs.Calls.{answer_in, flown_after, slice_in, slice_after}
pub use Rattle.ocp_flight.specs.Calls.{round_in, round_after}
