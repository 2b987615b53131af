-- What a commit's outcome gives of its work, and the largest number of instructions that are done.
use Rattle.std.proofs.Common.{◌≡◌, ◌≤◌, ◌↔◌, ℕ, zero, suc, Bool, true, false, cond, Option, Some, None, List, is_some, refl, arith}
use Rattle.bpf_step.specs.Machine.{State}
use Rattle.bpf_step.specs.Runs.{local_run, local_count}
use Rattle.ocp_table.specs.Budgets.{within}
use Rattle.ocp_table.specs.Snapshots.{Snapshot, count_by, count_of}
use Rattle.ocp_core.specs.declared.answers.CommitOutcome.{CommitOutcome}
use Rattle.ocp_core.specs.declared.answers.CommitOutcome.TheVariants as C
use Rattle.ocp_core.specs.Log.{Log}
use Rattle.ocp_core.specs.Tickets.{WorkContents}
use Rattle.ocp_core.specs.Commits.{Commits}

pub empty_exactly : (old new : Log) (by : ℕ) (w : WorkContents) (o : CommitOutcome)
    → Commits old new by w o → (o ≡ C.Empty) ↔ (w.count ≡ 0)
empty_exactly old new by w C.Empty is = (λ _. is.0, λ _. refl)
empty_exactly old new by w C.Stale is = (λ e. cc, λ none. absurd (is.0 none))
empty_exactly old new by w C.JournalFull is = (λ e. cc, λ none. absurd (is.0 none))
empty_exactly old new by w (C.Committed count) is = (λ e. cc, λ none. absurd (is.0 none))

pub committed_all : (old new : Log) (by : ℕ) (w : WorkContents) (o : CommitOutcome)
    → Commits old new by w o → (n : ℕ) → o ≡ C.Committed n → n ≡ w.count
committed_all old new by w C.Empty is n e = cc
committed_all old new by w C.Stale is n e = cc
committed_all old new by w C.JournalFull is n e = cc
committed_all old new by w (C.Committed count) is n e = cc

-- ---- within a budget

local_within : (image breakpoints : List ℕ) (pass : Bool) (s : State) (budget : ℕ) → local_count image breakpoints pass s budget ≤ budget
local_within image breakpoints pass s zero = omega arith
local_within image breakpoints pass s (suc n) =
    elim (is_some (local_run image breakpoints pass s (suc n))) as (λ b. cond b (suc n) (local_count image breakpoints pass s n) ≤ suc n) [
      | true ↦ omega arith
      | false ↦ omega (arith, local_within image breakpoints pass s n)
    ]

count_by_within : (traced : Bool) (s : Snapshot) (budget : ℕ) → count_by traced s budget ≤ budget
count_by_within true s budget = omega arith
count_by_within false s budget = local_within s.image s.breakpoints s.pass s.machine budget

left_within : (left : Option ℕ) (budget : ℕ) → within left budget ≤ budget
left_within None budget = omega arith
left_within (Some left) budget = omega arith

pub count_within : (s : Snapshot) (budget count : ℕ) → count ≡ count_of s budget → count ≤ budget
count_within s budget count is = omega (arith, is, count_by_within s.traced s (within s.remaining budget), left_within s.remaining budget)
