-- What instructions that a machine does by itself make of a world.
use Rattle.std.specs.Prelude.{◌≡◌, ◌+◌, ◌≤◌, ℕ, false, Some}
use Rattle.std.specs.FinMap.{get}
use Rattle.obcp_types.specs.declared.status.Status.TheVariants.{Running}
use Rattle.bpf_step.specs.Machine.{State}
use Rattle.bpf_step.specs.Runs.{local_run}
use Rattle.ocp_table.specs.Records.{Rec}
use Rattle.ocp_table.specs.Effects.{records_with}
use Rattle.ocp_table.specs.Budgets.{IsWithin}
use Rattle.ocp_table.specs.Snapshots.{record_after_work}
use Rattle.ocp_world.specs.World.{World}

-- the world in which this machine is put back into a procedure after `count` instructions, each an
-- accepted event that takes one from its budget, and its pass flag is clear
abbrev pub world_after_work : ℕ → State → ℕ → World → World
world_after_work id machine count w = record w {
  records = records_with (get w.records id) id (record_after_work count machine) w.records;
  events = w.events + count;
}

-- the procedure under this id runs and is not traced, and its machine does n instructions by
-- itself, at least one and no more than what remains of its budget, and becomes this machine
pub record RunsAlone (w : World) (id : ℕ) (r : Rec) (n : ℕ) (machine : State) : Type 0 where
  pub held : get w.records id ≡ Some r
  pub running : r.control.status ≡ Running
  pub untraced : r.traced ≡ false
  pub some : 1 ≤ n
  pub within : IsWithin r.remaining n
  pub ran : local_run r.image r.breakpoints r.control.pass r.machine n ≡ Some machine
