-- What is taken of a running procedure to run it apart from the engine, and what became of it.
use Rattle.std.specs.Prelude.{◌≡◌, ℕ, true, Option, Some, None}
use Rattle.bpf_step.specs.Machine.{State}
use Rattle.bpf_step.specs.Step.{StandsIn}
use Rattle.ocp_table.specs.Budgets.{IsWithin}
use Rattle.ocp_table.specs.Records.{Rec}
use Rattle.ocp_table.specs.Snapshots.{Snapshot, snapshot_at, run_of}

-- the procedure's id and what it was
pub record TicketContents : Type 0 where
  pub id : ℕ
  pub base : Snapshot

-- `count` instructions were done, and left the machine `end`
pub record WorkContents : Type 0 where
  pub id : ℕ
  pub base : Snapshot
  pub end : State
  pub count : ℕ

abbrev pub ticket_by : ℕ → Option Snapshot → Option TicketContents
ticket_by id None = None
ticket_by id (Some base) = Some (record { id = id; base = base })

-- the ticket of a procedure that is loaded and runs
abbrev pub ticket_at : ℕ → Option Rec → Option TicketContents
ticket_at id o = ticket_by id (snapshot_at o)

-- the machine does `count` instructions by itself, and they leave it `end`; they are no more than
-- what remains of the budget, and none if the procedure is traced
pub record IsRun (w : WorkContents) : Type 0 where
  pub ran : run_of w.base w.count ≡ Some w.end
  pub within : IsWithin w.base.remaining w.count
  pub stands : StandsIn w.base.image w.end
  pub untraced : w.base.traced ≡ true → w.count ≡ 0
