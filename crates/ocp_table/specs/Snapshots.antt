-- What is taken of a running procedure to run it apart, and how its machine is put back.
use Rattle.std.specs.Prelude.{ℕ, Bool, true, false, List, Option, Some, None}
use Rattle.obcp_types.specs.declared.status.Status.{Status}
use Rattle.obcp_types.specs.declared.status.Status.TheVariants.{Inactive, Running, Held}
use Rattle.bpf_step.specs.Machine.{State, HasAddressesOf}
use Rattle.bpf_step.specs.Step.{StandsIn}
use Rattle.bpf_step.specs.Runs.{local_run, local_count}
use Rattle.ocp_table.specs.Budgets.{less, within}
use Rattle.ocp_table.specs.Records.{Rec}
use Rattle.ocp_table.specs.Effects.{without_pass}

-- image, machine, breakpoints, pass flag, trace flag and what is left of the budget of a procedure
-- that runs
pub record Snapshot : Type 0 where
  pub image : List ℕ
  pub machine : State
  pub breakpoints : List ℕ
  pub pass : Bool
  pub traced : Bool
  pub remaining : Option ℕ

abbrev pub snapshot_of : Rec → Snapshot
snapshot_of r = record {
  image = r.image;
  machine = r.machine;
  breakpoints = r.breakpoints;
  pass = r.control.pass;
  traced = r.traced;
  remaining = r.remaining;
}

abbrev pub snapshot_by : Status → Rec → Option Snapshot
snapshot_by Inactive r = None
snapshot_by Running r = Some (snapshot_of r)
snapshot_by Held r = None

-- the snapshot of a procedure that is loaded and runs
abbrev pub snapshot_at : Option Rec → Option Snapshot
snapshot_at None = None
snapshot_at (Some r) = snapshot_by r.control.status r

-- the machine after `count` instructions that it does by itself
abbrev pub run_of : Snapshot → ℕ → Option State
run_of s count = local_run s.image s.breakpoints s.pass s.machine count

-- how many it does by itself, up to a number and to what is left of its budget: none if it is
-- traced
abbrev pub count_by : Bool → Snapshot → ℕ → ℕ
count_by true s n = 0
count_by false s n = local_count s.image s.breakpoints s.pass s.machine n

abbrev pub count_of : Snapshot → ℕ → ℕ
count_of s n = count_by s.traced s (within s.remaining n)

-- another machine that did `count` instructions is put back: the pass flag is cleared, and they are
-- taken from the budget
abbrev pub record_after_work : ℕ → State → Rec → Rec
record_after_work count machine r = record r {
  machine = machine;
  control = without_pass r.control;
  remaining = less count r.remaining;
}

-- the procedure gives its own machine for it, if it is loaded
abbrev pub machine_for : Option Rec → State → State
machine_for None machine = machine
machine_for (Some r) machine = r.machine

-- the machine and its saved places are at instructions of the image, and its memory has the
-- addresses of another machine
pub record IsFor (image : List ℕ) (own machine : State) : Type 0 where
  pub stands : StandsIn image machine
  pub addresses : HasAddressesOf own machine

-- the machine may take the place of the procedure's own, if that is loaded
abbrev pub StandsAt : Option Rec → State → Type 0
StandsAt None machine = Unit {0}
StandsAt (Some r) machine = IsFor r.image r.machine machine
