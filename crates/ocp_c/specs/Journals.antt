-- What C gets of the journal.
use Rattle.std.specs.Prelude.{ℕ, Result, Ok, Err}
use Rattle.ocp_flight.specs.declared.faults.EntryFault.{EntryFault}
use Rattle.ocp_flight.specs.declared.faults.EntryFault.TheVariants as entry

-- how long an entry is, also if the buffer is too short; else the number stays
abbrev pub length_or : Result ℕ EntryFault → ℕ → ℕ
length_or (Ok length) before = length
length_or (Err (entry.TooShort length)) before = length
length_or (Err entry.Released) before = before
length_or (Err entry.NotYet) before = before
