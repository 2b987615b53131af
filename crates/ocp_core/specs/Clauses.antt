-- The words of the engine's clauses, each passed on from the file that defines it.
pub use Rattle.std.specs.FinMap.{get}
pub use Rattle.std.specs.List.{flat_map}
pub use Rattle.ocp_profile.specs.declared.limits.TheConstants.{MAX_APID, MAX_POOL_WORDS}
pub use Rattle.ocp_profile.specs.declared.limits.TheConstants.{MAX_CAPACITY}
pub use Rattle.ocp_table.specs.Laws.{machine_of}
pub use Rattle.ocp_table.specs.Shown.{view_at}
pub use Rattle.ocp_table.specs.Snapshots.{count_of}
pub use Rattle.ocp_debug.specs.Traces.{last_traces}
pub use Rattle.ocp_debug.specs.Texts.{trace_line}
pub use Rattle.ocp_world.specs.World.{World, Event, Step, Debug, Put}
pub use Rattle.ocp_world.specs.After.{Answer, Requested, Stepped, Commanded, Written, after}
pub use Rattle.ocp_world.specs.After.{is_accepted}
pub use Rattle.ocp_world.specs.Round.{most_events, step_at}
pub use Rattle.ocp_world.specs.Answers.{Answers}
pub use Rattle.ocp_world.specs.NextRunning.{IsNextRunning, Runs}
pub use Rattle.ocp_world.specs.Replay.{answers, replay_from}
pub use Rattle.ocp_core.specs.declared.answers.CommitOutcome.{CommitOutcome}
pub use Rattle.ocp_core.specs.Log.{Log, Debugged, events_of, expand, empty_log, world_of, is_full}
pub use Rattle.ocp_core.specs.Log.{with_entry, entry_for, full_answer, answer_in, log_after}
pub use Rattle.ocp_core.specs.Slice.{slice_in, slice_log}
pub use Rattle.ocp_core.specs.Round.{round_in, round_log}
pub use Rattle.ocp_core.specs.Stores.{answer_at, event_store, slice_at, slice_store}
pub use Rattle.ocp_core.specs.Stores.{round_at, round_store, MayAdd, MayAddReports}
pub use Rattle.ocp_core.specs.Marks.{by_of, command_of, mark_in, entries_with_marks}
pub use Rattle.ocp_core.specs.Journal.{event_of, entry_of, mark_of, entry_with_mark, answer_of}
pub use Rattle.ocp_core.specs.Receipts.{Enters, Grows, reports_in, entries_in, event_entries}
pub use Rattle.ocp_core.specs.Receipts.{marked_drain, marked_request}
pub use Rattle.ocp_core.specs.Receipts.{count_entries, slice_entries, commit_entries}
pub use Rattle.ocp_core.specs.Running.{Applies, HasRoom, StopsAt, log_after_all, refusal_of}
pub use Rattle.ocp_core.specs.Running.{TakesMemory}
pub use Rattle.ocp_core.specs.Alone.{alone_after}
pub use Rattle.ocp_core.specs.Tickets.{TicketContents, WorkContents, IsRun, ticket_at}
pub use Rattle.ocp_core.specs.Commits.{Commits, work_after}
