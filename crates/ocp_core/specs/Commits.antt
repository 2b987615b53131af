-- When a work is committed, and what that leaves.
use Rattle.std.specs.Prelude.{◌≡◌, ◌≢◌, ℕ, true, false, Some}
use Rattle.std.specs.FinMap.{get}
use Rattle.ocp_table.specs.Snapshots.{snapshot_at}
use Rattle.ocp_world.specs.Settled.{world_after_work}
use Rattle.ocp_core.specs.declared.answers.CommitOutcome.{CommitOutcome}
use Rattle.ocp_core.specs.declared.answers.CommitOutcome.TheVariants.{Empty, Stale, JournalFull, Committed}
use Rattle.ocp_core.specs.Log.{Log, Steps, world_of, is_full, with_entry}
use Rattle.ocp_core.specs.Tickets.{WorkContents}

-- the procedure is loaded and runs, and its image, machine, breakpoints, pass flag, trace flag and
-- remaining budget are what the work began with
abbrev pub IsFresh : Log → WorkContents → Type 0
IsFresh log w = snapshot_at (get (world_of log).records w.id) ≡ Some w.base

-- the instructions are one entry and `count` events; they leave the machine of the work, with the
-- pass flag clear, and take `count` from the budget
pub record IsCommitted (old new : Log) (by : ℕ) (w : WorkContents) : Type 0 where
  pub journal : new ≡ with_entry old (Steps by w.id w.count)
  pub world : world_of new ≡ world_after_work w.id w.end w.count (world_of old)

-- a work without instructions is refused as empty, after that one whose procedure has changed as
-- stale, and then one that finds the journal full; nothing is changed
abbrev pub Commits : Log → Log → ℕ → WorkContents → CommitOutcome → Type 0
Commits old new by w Empty = (w.count ≡ 0) × (new ≡ old)
Commits old new by w Stale = (w.count ≢ 0) × (IsFresh old w → ⊥) × (new ≡ old)
Commits old new by w JournalFull =
    (w.count ≢ 0) × IsFresh old w × (is_full old ≡ true) × (new ≡ old)
Commits old new by w (Committed count) =
    (w.count ≢ 0) × IsFresh old w × (is_full old ≡ false) × (count ≡ w.count)
    × IsCommitted old new by w

-- what a work is after it was handed in: one that was committed has the machine that it began with
-- and no instructions, and any other is as it was
abbrev pub work_after : WorkContents → CommitOutcome → WorkContents
work_after w Empty = w
work_after w Stale = w
work_after w JournalFull = w
work_after w (Committed count) = record w { end = w.base.machine; count = 0 }
