-- The marks of a journal: the answer that was given to each entry. They are those of the replay.
use Rattle.std.specs.Prelude.{ℕ, zero, suc, ◌==◌, List, [], ◌∷◌, filter, Option, Some, None}
use Rattle.ocp_table.specs.declared.answers.StepOutcome.{StepOutcome}
use Rattle.ocp_debug.specs.declared.command.Command.{Command}
use Rattle.ocp_table.specs.declared.answers.StepOutcome.TheVariants as S
use Rattle.ocp_world.specs.World.{World, Request, Step, Debug, Drain, Put, opening}
use Rattle.ocp_world.specs.After.{Answer, Stepped, after}
use Rattle.ocp_world.specs.Replay.{replay_from}
use Rattle.ocp_world.specs.Slice.{next_outcome}
use Rattle.ocp_core.specs.Log.{Entry, Asked, Steps, Debugged, Drained, Wrote, Log, events_of}

-- the outcome of the last of `count` instructions, or the one before them
abbrev pub last_outcome : World → ℕ → ℕ → StepOutcome → ℕ → StepOutcome
last_outcome w by id last zero = last
last_outcome w by id last (suc count) =
    last_outcome (after w (Step by id)).world by id (next_outcome w id) count

-- the mark of an entry, by the world before it: the reports of a request or of a drain, the outcome
-- of the last instruction, or the result of a debugger's command or of a write
abbrev pub mark_in : World → Entry → Answer
mark_in w (Asked by time octets) = (after w (Request by time octets)).answer
mark_in w (Steps by id count) = Stepped (last_outcome w by id S.Ran count)
mark_in w (Debugged by id command) = (after w (Debug by id command)).answer
mark_in w (Drained by time) = (after w (Drain by time)).answer
mark_in w (Wrote by index value) = (after w (Put by index value)).answer

-- an entry with its mark: the answer that was given to it
pub record MarkedEntry : Type 0 where
  pub entry : Entry
  pub mark : Answer

abbrev pub entries_with_marks_from : World → List Entry → List MarkedEntry
entries_with_marks_from w [] = []
entries_with_marks_from w (entry ∷ entries) =
    record { entry = entry; mark = mark_in w entry }
    ∷ entries_with_marks_from (replay_from w (events_of entry)) entries

-- the entries of a journal with their marks
unfoldable pub entries_with_marks : Log → List MarkedEntry
entries_with_marks log =
    entries_with_marks_from (opening log.profile log.apid log.words) log.entries

-- the seat that an entry came from
abbrev pub by_of : Entry → ℕ
by_of (Asked by time octets) = by
by_of (Steps by id count) = by
by_of (Debugged by id command) = by
by_of (Drained by time) = by
by_of (Wrote by index value) = by

-- the debugger's command that an entry is, if it is one, with the id of its procedure
abbrev pub command_of : Entry → Option (ℕ × Command)
command_of (Debugged by id command) = Some (id, command)
command_of other = None

-- the entries of one seat, in order
abbrev pub entries_by : List MarkedEntry → ℕ → List MarkedEntry
entries_by entries by = filter (λ m. by_of m.entry == by) entries
