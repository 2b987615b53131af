-- The words of the table's clauses, each passed on from the file that defines it.
pub use Rattle.std.specs.FinMap.{get, insert}
pub use Rattle.arrayvec.specs.ArrayVec.{array_vec_len}
pub use Rattle.std.specs.List.Sorted.{IsStrictlyIncreasing}
pub use Rattle.ocp_profile.specs.declared.profile.Profile.{Profile}
pub use Rattle.obcp_types.specs.declared.failure.StartFailure.{StartFailure}
pub use Rattle.obcp_types.specs.declared.status.Status.TheVariants.{Running}
pub use Rattle.ocp_loader.specs.LoadResult.{Loads, load_result}
pub use Rattle.ocp_loader.specs.LineAt.{IsPlace, line_of}
pub use Rattle.ocp_regions.specs.Memory.{octets_at}
pub use Rattle.ocp_regions.specs.declared.fault.AccessFault.TheVariants.{AccessOutside}
pub use Rattle.ocp_regions.specs.declared.fault.AccessFault.TheVariants.{WriteToArguments}
pub use Rattle.ocp_regions.specs.Memory.{work_octets}
pub use Rattle.ocp_regions.specs.declared.regions.TheConstants.{STACK_OCTETS}
pub use Rattle.bpf_step.specs.Machine.{machine_at_restart, HasAddressesOf, State, machine_at_start}
pub use Rattle.bpf_step.specs.Machine.{HasMemoryOf}
pub use Rattle.bpf_step.specs.Reach.{frame_pointer}
pub use Rattle.bpf_step.specs.Step.{one_step, StandsIn}
pub use Rattle.bpf_step.specs.Runs.{local_run, breaks_at}
pub use Rattle.bpf_step.specs.declared.answer.MachineFault.TheVariants.{Access, CallDepth}
pub use Rattle.ocp_pool.specs.declared.call.PoolFault.TheVariants.{BadPoolIndex}
pub use Rattle.ocp_pool.specs.declared.mailbox.TheConstants.{MAX_MAILBOX_WORDS}
pub use Rattle.ocp_table.specs.Effects.{Kept, Failed, step_outcome, step_outcome_of, record_by}
pub use Rattle.ocp_table.specs.Effects.{dues_by_change, matches, inactive, control_on_hold}
pub use Rattle.ocp_table.specs.Effects.{without_pass}
pub use Rattle.ocp_table.specs.Effects.{control_at_step_end, control_by_outcome, machine_by_outcome}
pub use Rattle.ocp_table.specs.Effects.{mailbox_by_outcome, pool_by_outcome, Effect, Change}
pub use Rattle.ocp_table.specs.Effects.{Changed, records_by, failure_of, failed_completion}
pub use Rattle.ocp_table.specs.Effects.{dues_at_step_end, dues_by_outcome, Stepped}
pub use Rattle.ocp_table.specs.Effects.{remaining_by_outcome, record_after, pool_by, new_record}
pub use Rattle.ocp_table.specs.Effects.{table_by, table_with, with_procedure, with_breakpoints}
pub use Rattle.ocp_table.specs.Effects.{with_trace_flag, Loaded, Drained, refusal_of}
pub use Rattle.ocp_table.specs.Slices.{is_on, is_done, Store, RunsBy, Leads, with_machine, last_ran}
pub use Rattle.ocp_table.specs.Slices.{is_running_status, IsSlice, is_traced, is_running}
pub use Rattle.ocp_table.specs.Slices.{slice_count, slice_last, store_of, store_after_events}
pub use Rattle.ocp_table.specs.Slices.{step_ended_by, step_ended, step_at, most_events, ends_with}
pub use Rattle.ocp_table.specs.Slices.{slice_of}
pub use Rattle.ocp_table.specs.Budgets.{less, IsWithin}
pub use Rattle.ocp_table.specs.Outbox.{HasPlaceBeside, pendings, has_no_place, places_of}
pub use Rattle.ocp_table.specs.Deciding.{decision_on, outcome_of, effect_in, status_of, outcome_in}
pub use Rattle.ocp_table.specs.Deciding.{outcome_unheld, Executes, ExecutesStep, is_full}
pub use Rattle.ocp_table.specs.Deciding.{table_after}
pub use Rattle.ocp_table.specs.Shown.{record_of, directive_of, change_of, decision_of}
pub use Rattle.ocp_table.specs.Shown.{HasFewArguments, FitsIn, HasPlaceFor, effect_of_record}
pub use Rattle.ocp_table.specs.Shown.{dues_of_effect, id_of, statuses_of, view_at}
pub use Rattle.ocp_table.specs.Shown.{effect_decided, IfChanges}
pub use Rattle.ocp_table.specs.Restoring.{record_of_saved, machine_of_saved, is_above}
pub use Rattle.ocp_table.specs.Restoring.{lacks_places, is_active, is_pending, pends_inactive}
pub use Rattle.ocp_table.specs.Restoring.{passes_unrun, has_needless_budget, rises}
pub use Rattle.ocp_table.specs.Restoring.{are_no_breakpoints, is_place, stands_in, are_framed}
pub use Rattle.ocp_table.specs.Restoring.{is_framed, fault_of_table, fault_of_control}
pub use Rattle.ocp_table.specs.Restoring.{fault_of_machine, fault_of_program, first_of}
pub use Rattle.ocp_table.specs.Restoring.{saved_fault, with_outbox, has_no_room_for}
pub use Rattle.ocp_table.specs.Faults.{fault_number}
pub use Rattle.ocp_table.specs.declared.answers.StepOutcome.{StepOutcome}
pub use Rattle.ocp_table.specs.declared.fault.ProcedureFault.TheVariants.{Machine, Pool}
pub use Rattle.ocp_table.specs.declared.fault.ProcedureFault.TheVariants.{BudgetSpent}
pub use Rattle.ocp_table.specs.Records.{Rec, Records, Procedures}
pub use Rattle.ocp_table.specs.RequestTable.{Directive, Step, Load, Unload, Activate, Stop, Suspend}
pub use Rattle.ocp_table.specs.RequestTable.{Resume, Abort, Communicate, failure_by}
pub use Rattle.ocp_table.specs.Laws.{machine_of, IsRequest, IsKeptOrStarted, IsDebugging}
pub use Rattle.ocp_table.specs.Laws.{LeavesMachines}
pub use Rattle.ocp_table.specs.Mirror.Contents.{IsSound, IsUnder, contents}
pub use Rattle.ocp_table.specs.Mirror.Rows.{place_for, rows_with}
pub use Rattle.ocp_table.specs.Snapshots.{snapshot_at, count_of, record_after_work, machine_for}
pub use Rattle.ocp_table.specs.Snapshots.{StandsAt}
