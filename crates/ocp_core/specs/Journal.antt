-- What contracts see of events, entries and answers.
use Rattle.std.specs.Prelude.{Ok}
use Rattle.ocp_core.specs.declared.event.Entry as N
use Rattle.ocp_core.specs.declared.event.Entry.TheVariants as entry
use Rattle.ocp_core.specs.declared.event.Event as E
use Rattle.ocp_core.specs.declared.event.Event.TheVariants as event
use Rattle.ocp_core.specs.declared.answers.Answer as G
use Rattle.ocp_core.specs.declared.answers.Answer.TheVariants as answer
use Rattle.ocp_debug.specs.declared.command.Command.TheVariants as command
use Rattle.ocp_world.specs.World.{Event, Request, Step, Debug, Drain, Put}
use Rattle.ocp_world.specs.After.{Answer, Requested, Stepped, Commanded, Written}
use Rattle.ocp_core.specs.Log.{Entry, Asked, Steps, Debugged, Drained, Wrote}
use Rattle.ocp_core.specs.Marks.{MarkedEntry}

-- the event that a value of the code is
abbrev pub event_of : E.Event → Event
event_of (event.Request by time octets) = Request by time octets.now
event_of (event.Step by id) = Step by id
event_of (event.SetBreak by id place) = Debug by id (command.SetBreak place)
event_of (event.ClearBreak by id place) = Debug by id (command.ClearBreak place)
event_of (event.Trace by id on) = Debug by id (command.SetTrace on)
event_of (event.Drain by time) = Drain by time
event_of (event.PutWord by index value) = Put by index value

module _ {A : Type 0} where
  abbrev pub entry_of : N.Entry A → Entry
  entry_of (entry.Request by time octets mark) = Asked by time octets
  entry_of (entry.Steps by id count mark) = Steps by id count
  entry_of (entry.SetBreak by id place) = Debugged by id (command.SetBreak place)
  entry_of (entry.ClearBreak by id place) = Debugged by id (command.ClearBreak place)
  entry_of (entry.Trace by id on) = Debugged by id (command.SetTrace on)
  entry_of (entry.Drain by time mark) = Drained by time
  entry_of (entry.PutWord by index value) = Wrote by index value

  -- the answer that is kept with an entry: the reports of a request or of a drain, the last outcome
  -- of instructions, or that a debugger's command or a write was done
  abbrev pub mark_of : N.Entry A → Answer
  mark_of (entry.Request by time octets reports) = Requested (Ok reports)
  mark_of (entry.Steps by id count outcome) = Stepped outcome
  mark_of (entry.SetBreak by id place) = Commanded (Ok tt)
  mark_of (entry.ClearBreak by id place) = Commanded (Ok tt)
  mark_of (entry.Trace by id on) = Commanded (Ok tt)
  mark_of (entry.Drain by time reports) = Requested (Ok reports)
  mark_of (entry.PutWord by index value) = Written (Ok tt)

  abbrev pub entry_with_mark : N.Entry A → MarkedEntry
  entry_with_mark e = record { entry = entry_of e; mark = mark_of e }

  abbrev pub answer_of : G.Answer A → Answer
  answer_of (answer.Requested reports) = Requested reports
  answer_of (answer.Stepped outcome) = Stepped outcome
  answer_of (answer.Commanded result) = Commanded result
  answer_of (answer.Written result) = Written result
