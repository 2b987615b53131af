-- A work that is committed.
use Rattle.std.proofs.Common.{◌≡◌, ◌≤◌, ℕ, zero, suc, Bool, true, false, List, ◌∷◌, Option, Some, None, replicate, refl, sym, ap, subst, ◌∙◌, arith}
use Rattle.std.specs.FinMap.{get}
use Rattle.obcp_types.specs.declared.status.Status.{Status}
use Rattle.obcp_types.specs.declared.status.Status.TheVariants.{Inactive, Running, Held}
use Rattle.bpf_step.specs.Machine.{State as Machined, HasAddressesOf}
use Rattle.bpf_step.specs.Runs.{local_run}
use Rattle.bpf_step.specs.Step.{StandsIn}
use Rattle.ocp_table.specs.Budgets.{IsWithin}
use Rattle.ocp_table.specs.Records.{Rec}
use Rattle.ocp_table.specs.Snapshots.{Snapshot, snapshot_of, snapshot_by, snapshot_at, run_of, IsFor, StandsAt, machine_for}
use Rattle.ocp_world.specs.World.{World, Step}
use Rattle.ocp_world.specs.After.{Answer, Stepped, after}
use Rattle.ocp_world.specs.Replay.{replay_from, answers}
use Rattle.ocp_world.specs.Slice.{next_outcome}
use Rattle.ocp_table.specs.declared.answers.StepOutcome.TheVariants as S
use Rattle.ocp_world.specs.Settled.{RunsAlone, world_after_work}
use Rattle.ocp_world.specs.Mirror.State.{IsWorld}
use Rattle.ocp_world.specs.declared.state.State.{State}
use Rattle.ocp_core.specs.Log.{Log, Steps, with_entry, world_of}
use Rattle.ocp_core.specs.Marks.{last_outcome}
use Rattle.ocp_core.specs.Tickets.{WorkContents, IsRun}
use Rattle.ocp_core.specs.Commits.{IsFresh}
use Rattle.ocp_core.proofs.Replays.{world_of-with_entry}
use Rattle.ocp_core.specs.Mirror.Counted.{AreCounted}
use Rattle.ocp_core.proofs.Keeping.{IsWorld-with_entry}
use Rattle.ocp_core.proofs.Counting.{counted_steps}
use Rattle.ocp_core.proofs.Journaling.{same_outcome}

-- ---- the procedure that a snapshot is of

snapshot_some : (s : Status) (r : Rec) (base : Snapshot) → snapshot_by s r ≡ Some base → (s ≡ Running) × (snapshot_of r ≡ base)
snapshot_some Inactive r base is = absurd (cc)
snapshot_some Running r base is = (refl, cc)
snapshot_some Held r base is = absurd (cc)

-- it is loaded, it runs, and has these parts
record IsOf (o : Option Rec) (base : Snapshot) : Type 0 where
  r : Rec
  held : o ≡ Some r
  running : r.control.status ≡ Running
  same : snapshot_of r ≡ base

is_of : (o : Option Rec) (base : Snapshot) → snapshot_at o ≡ Some base → IsOf o base
is_of None base is = absurd (cc)
is_of (Some r) base is =
    let found = snapshot_some r.control.status r base is in
    record { r = r; held = refl; running = found.0; same = found.1 }

untraced_by : (b : Bool) (n : ℕ) → (b ≡ true → n ≡ 0) → (n ≡ 0 → ⊥) → b ≡ false
untraced_by true n none some = absurd (some (none refl))
untraced_by false n none some = refl

at_least_one : (n : ℕ) → (n ≡ 0 → ⊥) → 1 ≤ n
at_least_one zero some = absurd (some refl)
at_least_one (suc n) some = omega arith

-- what the state's procedure is, the world's is
pub fresh_at : {A : Type 0} (s : State A) (log : Log) (id : ℕ) (base : Snapshot) → IsWorld (world_of log) s → snapshot_at (get s.table.records id) ≡ Some base → snapshot_at (get (world_of log).records id) ≡ Some base
fresh_at s log id base stands is = ap (λ m. snapshot_at (get m id)) (sym stands.records) ∙ is

-- ---- its instructions are events

alone : (log : Log) (w : WorkContents) → (some : w.count ≡ 0 → ⊥) (fresh : IsFresh log w) (run : IsRun w) (found : IsOf (get (world_of log).records w.id) w.base) → RunsAlone (world_of log) w.id found.r w.count w.end
alone log w some fresh run found = record {
  held = found.held;
  running = found.running;
  untraced = ap (λ s. s.traced) found.same ∙ untraced_by w.base.traced w.count run.untraced some;
  some = at_least_one w.count some;
  within = subst (λ s. IsWithin s.remaining w.count) (sym found.same) run.within;
  ran = subst (λ s. run_of s w.count ≡ Some w.end) (sym found.same) run.ran;
}

-- what the law states of the addresses of a machine that runs
abbrev pub KeepAddresses : Type 0
KeepAddresses = (image breakpoints : List ℕ) (pass : Bool) (s t : Machined) (n : ℕ) → local_run image breakpoints pass s n ≡ Some t → HasAddressesOf s t

-- the machine that is put back may take the place of the procedure's own
pub may_settle : KeepAddresses → (o : Option Rec) (w : WorkContents) → snapshot_at o ≡ Some w.base → IsRun w → StandsAt o w.end
may_settle law o w is run =
    let found = is_of o w.base is in
    let addresses = law w.base.image w.base.breakpoints w.base.pass w.base.machine w.end w.count run.ran in
    subst (λ x. StandsAt x w.end) (sym found.held) (subst (λ s. IsFor s.image s.machine w.end) (sym found.same) (record { stands = run.stands; addresses = addresses }))

-- and the one that is given for it is that of the snapshot
given_at : (o : Option Rec) (base : Snapshot) (machine : Machined) → IsOf o base → machine_for o machine ≡ base.machine
given_at o base machine found = ap (λ x. machine_for x machine) found.held ∙ ap (λ s. s.machine) found.same

-- what the law states of the instructions of a run
abbrev pub AreEvents : Type 0
AreEvents = (v : World) (by id n : ℕ) (r : Rec) (machine : Machined) → RunsAlone v id r n machine → replay_from v (replicate n (Step by id)) ≡ world_after_work id machine n v

pub events_settle : AreEvents → (log : Log) (by : ℕ) (w : WorkContents) → (w.count ≡ 0 → ⊥) → IsFresh log w → IsRun w → replay_from (world_of log) (replicate w.count (Step by w.id)) ≡ world_after_work w.id w.end w.count (world_of log)
events_settle law log by w some fresh run =
    let found = is_of (get (world_of log).records w.id) w.base fresh in
    law (world_of log) by w.id w.count found.r w.end (alone log w some fresh run found)

-- each of them is counted
pub counted_commit : AreEvents → (log : Log) (by : ℕ) (w : WorkContents) → (w.count ≡ 0 → ⊥) → IsFresh log w → IsRun w → AreCounted (world_of log) (replicate w.count (Step by w.id))
counted_commit law log by w some fresh run = counted_steps (world_of log) by w.id w.count (ap (λ v. v.events) (events_settle law log by w some fresh run))

pub world_committed : AreEvents → (log new : Log) (by : ℕ) (w : WorkContents) → (w.count ≡ 0 → ⊥) → IsFresh log w → IsRun w → new ≡ with_entry log (Steps by w.id w.count) → world_of new ≡ world_after_work w.id w.end w.count (world_of log)
world_committed law log new by w some fresh run is =
    ap world_of is ∙ world_of-with_entry log (Steps by w.id w.count) ∙ events_settle law log by w some fresh run

module _ {A : Type 0} where
  -- the state after a commit represents the new journal's world
  pub IsWorld-committed : AreEvents → (log new : Log) (by : ℕ) (w : WorkContents) (s : State A) → (w.count ≡ 0 → ⊥) → IsFresh log w → IsRun w → new ≡ with_entry log (Steps by w.id w.count) → IsWorld (world_after_work w.id w.end w.count (world_of log)) s → IsWorld (world_of new) s
  IsWorld-committed law log new by w s some fresh run is stands =
      IsWorld-with_entry log new (Steps by w.id w.count) s is
      (subst (λ v. IsWorld v s) (sym (events_settle law log by w some fresh run)) stands)

-- ---- the mark of its entry

pub runs_answered : ((v : World) (by id n : ℕ) (r : Rec) (machine : Machined) → RunsAlone v id r n machine → answers v (replicate n (Step by id)) ≡ replicate n (Stepped S.Ran)) → (log : Log) (by : ℕ) (w : WorkContents) → (w.count ≡ 0 → ⊥) → IsFresh log w → IsRun w → answers (world_of log) (replicate w.count (Step by w.id)) ≡ replicate w.count (Stepped S.Ran)
runs_answered law log by w some fresh run =
    let found = is_of (get (world_of log).records w.id) w.base fresh in
    law (world_of log) by w.id w.count found.r w.end (alone log w some fresh run found)

head_of : (x y : Answer) (xs ys : List Answer) → x ∷ xs ≡ y ∷ ys → x ≡ y
head_of x y xs ys is = cc

tail_of : (x y : Answer) (xs ys : List Answer) → x ∷ xs ≡ y ∷ ys → xs ≡ ys
tail_of x y xs ys is = cc

-- instructions that are all answered `Ran` have that as their last outcome
pub last_of_run : (w : World) (by id n : ℕ) → answers w (replicate n (Step by id)) ≡ replicate n (Stepped S.Ran) → last_outcome w by id S.Ran n ≡ S.Ran
last_of_run w by id zero all = refl
last_of_run w by id (suc n) all =
    let first = after w (Step by id) in
    let answered = head_of first.answer (Stepped S.Ran) (answers first.world (replicate n (Step by id))) (replicate n (Stepped S.Ran)) all in
    let rest = tail_of first.answer (Stepped S.Ran) (answers first.world (replicate n (Step by id))) (replicate n (Stepped S.Ran)) all in
    ap (λ o. last_outcome first.world by id o n) (same_outcome (next_outcome w id) S.Ran answered) ∙ last_of_run first.world by id n rest

-- ---- the work that stays

-- the machine that the procedure gives is the one that the work began with
pub given_back : (log : Log) (w : WorkContents) (before machine : Machined) → IsFresh log w → machine ≡ machine_for (get (world_of log).records w.id) before → machine ≡ w.base.machine
given_back log w before machine fresh is = is ∙ given_at (get (world_of log).records w.id) w.base before (is_of (get (world_of log).records w.id) w.base fresh)

-- a machine as it began has done nothing
pub run_none : (id : ℕ) (base : Snapshot) (machine : Machined) → StandsIn base.image base.machine → machine ≡ base.machine → IsRun (record { id = id; base = base; end = machine; count = 0 })
run_none id base machine stands is =
    subst (λ m. IsRun (record { id = id; base = base; end = m; count = 0 })) (sym is)
    (record { ran = refl; within = within_none base.remaining; stands = stands; untraced = λ _. refl })
  where
    within_none : (left : Option ℕ) → IsWithin left 0
    within_none None = tt
    within_none (Some n) = omega arith
