-- The words of the world's clauses, each passed on from the file that defines it.
pub use Rattle.std.specs.FinMap.{get}
pub use Rattle.std.specs.Option.{option_to_list}
pub use Rattle.pus_fields.specs.TelecommandFaults.{telecommand_of}
pub use Rattle.bpf_step.specs.Machine.{State}
pub use Rattle.ocp_table.specs.Laws.{machine_of, run_of, IsKeptOrStarted}
pub use Rattle.ocp_table.specs.Snapshots.{machine_for, StandsAt}
pub use Rattle.ocp_table.specs.Records.{Rec}
pub use Rattle.ocp_table.specs.Effects.{Kept, Unasked, Failed}
pub use Rattle.ocp_table.specs.Shown.{directive_of, HasFewArguments}
pub use Rattle.ocp_debug.specs.declared.command.Command.{Command}
pub use Rattle.ocp_debug.specs.Mirror.Settings.{Decides}
pub use Rattle.ocp_reports.specs.Reports.{reports_of}
pub use Rattle.ocp_world.specs.declared.answers.EngineFault.TheVariants.{Memory, JournalFull}
pub use Rattle.ocp_world.specs.World.{World, Request, Drain, Event, Step, Debug, Put, opening}
pub use Rattle.ocp_world.specs.After.{after, effect_of, Requested, Stepped, Commanded, Written}
pub use Rattle.ocp_world.specs.After.{is_accepted, is_done}
pub use Rattle.ocp_world.specs.Mirror.Answering.{discard_of, IsDiscard, IsUndue}
pub use Rattle.ocp_world.specs.Mirror.Answering.{IsCommanded, IsPutAt}
pub use Rattle.ocp_world.specs.Mirror.State.{IsWorld, DoesIn, Does, with_packets}
pub use Rattle.ocp_world.specs.Replay.{replay_from, answers}
pub use Rattle.ocp_world.specs.Laws.{may_change_machine, IsAppended}
pub use Rattle.ocp_world.specs.Slice.{is_running, next_outcome, is_on, slice_count, slice_last}
pub use Rattle.ocp_world.specs.Round.{step_ended, step_at, round_budget, most_events}
pub use Rattle.ocp_world.specs.Settled.{world_after_work, RunsAlone}
pub use Rattle.ocp_world.specs.Effect.{Sends}
pub use Rattle.ocp_world.specs.Requests.{directive_effect, command_effect, has_no_place}
pub use Rattle.ocp_world.specs.NextRunning.{IsNextRunning, Runs}
pub use Rattle.ocp_world.specs.Mirror.Turns.{runs_from, first_from, next_in}
