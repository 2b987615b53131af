-- Instructions that a machine does by itself, as events of the world.
use Rattle.std.proofs.Common.{◌≡◌, ◌+◌, ◌-◌, ◌≤◌, length, ℕ, zero, suc, Bool, true, false, cond, List, [], ◌∷◌, ◌++◌, Option, Some, None, replicate, refl, sym, ap, subst, ◌∙◌, arith}
use Rattle.std.specs.Prelude.{◌==◌, ◌&&◌, option_and_then}
use Rattle.std.proofs.lemmas.Bool.Decides.{nat_tests}
use Rattle.std.proofs.lemmas.List.{append-nil}
use Rattle.std.specs.FinMap as map
use Rattle.obcp_types.specs.declared.status.Status.{Status}
use Rattle.obcp_types.specs.declared.status.Status.TheVariants.{Running}
use Rattle.bpf_step.specs.Machine.{State, Outcome, Next, Needs, NoInstruction}
use Rattle.bpf_step.specs.Step.{one_step}
use Rattle.bpf_step.specs.Runs.{next_of, breaks_at, local_next, local_run}
use Rattle.ocp_table.specs.declared.answers.InstructionOutcome.TheVariants.{Broke, Ran, Faulted}
use Rattle.ocp_table.specs.declared.fault.ProcedureFault.TheVariants.{BudgetSpent}
use Rattle.ocp_table.specs.declared.answers.StepOutcome.TheVariants as S
use Rattle.ocp_table.specs.Records.{Rec}
use Rattle.ocp_table.specs.Effects.{Changed, Stepped, dues_of, without_pass, record_by, with_change, machine_after, records_with}
use Rattle.ocp_table.specs.RequestTable as directive
use Rattle.ocp_table.specs.Deciding.{outcome_of, outcome_unheld, outcome_in, effect_on, effect_in, effect_by, effect_of_step, is_full}
use Rattle.ocp_table.specs.Budgets.{one_less, less, is_spent, IsWithin}
use Rattle.ocp_table.specs.Snapshots.{record_after_work}
use Rattle.ocp_world.specs.World.{World, Event, Step}
use Rattle.ocp_world.specs.After.{Stepped as Answered, after, world_after, answer_by}
use Rattle.ocp_world.specs.Instructions.{instruction_effect}
use Rattle.ocp_world.specs.Replay.{replay_from, answers}
use Rattle.ocp_debug.specs.Traces.{traces_by_change, traces_if}
use Rattle.ocp_world.specs.Settled.{world_after_work, RunsAlone}
use Rattle.ocp_table.proofs.Budgets.{less-one, within-fewer}
use Rattle.ocp_table.proofs.Slicing.{get-put, put-put}
use Rattle.ocp_world.proofs.Replays.{steps-suc}

-- ---- the budget

less-more : (n : ℕ) (o : Option ℕ) → less 1 (less (suc n) o) ≡ less (suc (suc n)) o
less-more n None = refl
less-more n (Some left) =
    let both : left - suc n - 1 ≡ left - suc (suc n) = omega arith in
    ap Some both

-- if one more is within it, it is not spent
unspent_first : (o : Option ℕ) → IsWithin o 1 → is_spent o ≡ false
unspent_first None within = refl
unspent_first (Some left) within = grind (arith, nat_tests, within)

unspent_later : (n : ℕ) (o : Option ℕ) → IsWithin o (suc (suc n)) → is_spent (less (suc n) o) ≡ false
unspent_later n None within = refl
unspent_later n (Some left) within =
    let rest : 1 ≤ left - suc n = omega (arith, within) in
    grind (arith, nat_tests, rest)

-- ---- one instruction

-- the world with this record of the procedure, after n more events
abbrev with_record : ℕ → Rec → ℕ → World → World
with_record id r count w = record w { records = map.insert w.records id r; events = w.events + count }

decided : (pool : List ℕ) (id : ℕ) (r : Rec) (s : Status) (full : Bool) → s ≡ Running → effect_by (directive.transition (directive.Step pool) (Some s) r.control.pending (length r.mailbox)) id (Some r) full ≡ effect_of_step (outcome_in r pool) id
decided pool id r s full is = subst (λ t. effect_by (directive.transition (directive.Step pool) (Some t) r.control.pending (length r.mailbox)) id (Some r) full ≡ effect_of_step (outcome_in r pool) id) (sym is) refl

-- the machine goes on by itself: no breakpoint holds it, and its instruction has a next state
record Goes (image breakpoints : List ℕ) (pass : Bool) (m next : State) : Type 0 where
  free : breaks_at pass breakpoints m.place ≡ false
  steps : one_step image m ≡ Next next

next_in : (o : Outcome) (next : State) → next_of o ≡ Some next → o ≡ Next next
next_in (Next s) next is = cc
next_in (Needs n) next is = absurd (cc)
next_in NoInstruction next is = absurd (cc)

goes_by : (b : Bool) (o : Outcome) (next : State) → cond b None (next_of o) ≡ Some next → (b ≡ false) × (o ≡ Next next)
goes_by true o next is = absurd (cc)
goes_by false o next is = (refl, next_in o next is)

goes : (image breakpoints : List ℕ) (pass : Bool) (m next : State) → local_next image breakpoints pass m ≡ Some next → Goes image breakpoints pass m next
goes image breakpoints pass m next is =
    let found = goes_by (breaks_at pass breakpoints m.place) (one_step image m) next is in
    record { free = found.0; steps = found.1 }

ran : (r : Rec) (pool : List ℕ) (next : State) → is_spent r.remaining ≡ false → Goes r.image r.breakpoints r.control.pass r.machine next → outcome_in r pool ≡ Some Ran
ran r pool next unspent go =
    ap (λ b. cond b (Some Broke) (outcome_unheld r pool)) go.free
    ∙ ap (λ b. cond b (Some (Faulted BudgetSpent)) (outcome_of (one_step r.image r.machine) r.machine pool r.mailbox)) unspent
    ∙ ap (λ o. outcome_of o r.machine pool r.mailbox) go.steps

-- its effect
effect-ran : (w : World) (id : ℕ) (r : Rec) (next : State) → map.get w.records id ≡ Some r → r.control.status ≡ Running → is_spent r.remaining ≡ false → Goes r.image r.breakpoints r.control.pass r.machine next → effect_in (directive.Step w.pool) id w.records ≡ Changed id (Stepped Ran)
effect-ran w id r next held running unspent go =
    ap (λ o. effect_on (directive.Step w.pool) id o (is_full w.records)) held
    ∙ decided w.pool id r r.control.status (is_full w.records) running
    ∙ ap (λ o. effect_of_step o id) (ran r w.pool next unspent go)

stepped : (r : Rec) (next : State) → one_step r.image r.machine ≡ Next next → record_by (Stepped Ran) r ≡ record_after_work 1 next r
stepped r next is = ap (λ o. record {
  image = r.image;
  machine = machine_after o r.machine;
  mailbox = r.mailbox;
  control = without_pass r.control;
  breakpoints = r.breakpoints;
  traced = r.traced;
  remaining = one_less r.remaining;
}) is ∙ (λ i. record (record_after_work 1 next r) { remaining = sym (less-one r.remaining) i })

-- the procedure runs untraced, and its machine goes on by itself
record GoesOn (w : World) (id : ℕ) (r : Rec) (next : State) : Type 0 where
  held : map.get w.records id ≡ Some r
  running : r.control.status ≡ Running
  untraced : r.traced ≡ false
  unspent : is_spent r.remaining ≡ false
  go : Goes r.image r.breakpoints r.control.pass r.machine next

one_more : (w : World) (by id : ℕ) (r : Rec) (next : State) → GoesOn w id r next → (after w (Step by id)).world ≡ with_record id (record_after_work 1 next r) 1 w
one_more w by id r next on =
    let records : with_change (map.get w.records id) id (Stepped Ran) w.records ≡ map.insert w.records id (record_after_work 1 next r) =
    ap (λ o. with_change o id (Stepped Ran) w.records) on.held ∙ ap (map.insert w.records id) (stepped r next on.go.steps) in
    let traces : w.traces ++ traces_by_change id (Stepped Ran) (map.get w.records id) ≡ w.traces =
    ap (λ o. w.traces ++ traces_by_change id (Stepped Ran) o) on.held ∙ ap (λ b. w.traces ++ traces_if b id Ran r) on.untraced ∙ append-nil w.traces in
    let outbox : w.outbox ++ dues_of (Stepped Ran) (map.get w.records id) ≡ w.outbox =
    ap (λ o. w.outbox ++ dues_of (Stepped Ran) o) on.held ∙ append-nil w.outbox in
    ap (λ e. world_after (instruction_effect e) w) (effect-ran w id r next on.held on.running on.unspent on.go)
    ∙ (λ i. record w { records = records i; outbox = outbox i; events = w.events + 1; traces = traces i })

one_answer : (w : World) (by id : ℕ) (r : Rec) (next : State) → GoesOn w id r next → (after w (Step by id)).answer ≡ Answered S.Ran
one_answer w by id r next on = ap (λ e. answer_by (instruction_effect e).reply w) (effect-ran w id r next on.held on.running on.unspent on.go)

-- ---- many instructions

and_then : {X : Type 0} (f : X → Option X) (o : Option X) (y : X) → option_and_then f o ≡ Some y → (x : X) × (o ≡ Some x) × (f x ≡ Some y)
and_then f None y is = absurd (cc)
and_then f (Some x) y is = (x, refl, is)

first_pass : (pass : Bool) → (pass && (0 == 0)) ≡ pass
first_pass true = refl
first_pass false = refl

later_pass : (pass : Bool) (n : ℕ) → (pass && (suc n == 0)) ≡ false
later_pass true n = grind (arith, nat_tests)
later_pass false n = refl

module _ (w : World) (by id : ℕ) (r : Rec) (held : map.get w.records id ≡ Some r) (running : r.control.status ≡ Running) (untraced : r.traced ≡ false) where
  abbrev run : ℕ → Option State
  run n = local_run r.image r.breakpoints r.control.pass r.machine n

  abbrev world_at : ℕ → State → World
  world_at zero machine = w
  world_at (suc n) machine = with_record id (record_after_work (suc n) machine r) (suc n) w

  abbrev record_at : ℕ → State → Rec
  record_at zero machine = r
  record_at (suc n) machine = record_after_work (suc n) machine r

  same_run : (m n : State) → Some m ≡ Some n → m ≡ n
  same_run m n is = cc

  -- one more
  goes_on_at : (n : ℕ) (machine next : State) → IsWithin r.remaining (suc n) → run n ≡ Some machine → local_next r.image r.breakpoints (r.control.pass && (n == 0)) machine ≡ Some next → GoesOn (world_at n machine) id (record_at n machine) next
  goes_on_at zero machine next within so_far is = record {
    held = held;
    running = running;
    untraced = untraced;
    unspent = unspent_first r.remaining within;
    go = goes r.image r.breakpoints r.control.pass r.machine next
        (ap (λ m. local_next r.image r.breakpoints r.control.pass m) (same_run r.machine machine so_far)
        ∙ ap (λ b. local_next r.image r.breakpoints b machine) (sym (first_pass r.control.pass)) ∙ is);
  }
  goes_on_at (suc n) machine next within so_far is = record {
    held = get-put w.records id (record_after_work (suc n) machine r);
    running = running;
    untraced = untraced;
    unspent = unspent_later n r.remaining within;
    go = goes r.image r.breakpoints false machine next
        (ap (λ b. local_next r.image r.breakpoints b machine) (sym (later_pass r.control.pass n)) ∙ is);
  }

  counts_on : (n : ℕ) → w.events + suc n + 1 ≡ w.events + suc (suc n)
  counts_on n = omega arith

  settled_at : (n : ℕ) (machine next : State) → with_record id (record_after_work 1 next (record_at n machine)) 1 (world_at n machine) ≡ with_record id (record_after_work (suc n) next r) (suc n) w
  settled_at zero machine next = refl
  settled_at (suc n) machine next =
      let taken : record_after_work 1 next (record_after_work (suc n) machine r) ≡ record_after_work (suc (suc n)) next r = λ i. record (record_after_work (suc (suc n)) next r) { remaining = less-more n r.remaining i } in
      let records : map.insert (map.insert w.records id (record_after_work (suc n) machine r)) id (record_after_work 1 next (record_after_work (suc n) machine r)) ≡ map.insert w.records id (record_after_work (suc (suc n)) next r) =
      put-put w.records id (record_after_work (suc n) machine r) (record_after_work 1 next (record_after_work (suc n) machine r)) ∙ ap (map.insert w.records id) taken in
      λ i. record w { records = records i; events = counts_on n i }

  pub world_after_run : (n : ℕ) (machine : State) → IsWithin r.remaining n → run n ≡ Some machine → replay_from w (replicate n (Step by id)) ≡ world_at n machine
  world_after_run zero machine within is = refl
  world_after_run (suc n) machine within is =
      let (before, so_far, last) = and_then (local_next r.image r.breakpoints (r.control.pass && (n == 0))) (run n) machine is in
      steps-suc w by id n
      ∙ ap (λ v. (after v (Step by id)).world) (world_after_run n before (within-fewer r.remaining n (suc n) (omega arith) within) so_far)
      ∙ one_more (world_at n before) by id (record_at n before) machine (goes_on_at n before machine within so_far last)
      ∙ settled_at n before machine

  answers-suc : (v : World) (e : Event) (n : ℕ) → answers v (replicate (suc n) e) ≡ answers v (replicate n e) ++ (after (replay_from v (replicate n e)) e).answer ∷ []
  answers-suc v e zero = refl
  answers-suc v e (suc n) = ap (λ rest. (after v e).answer ∷ rest) (answers-suc (after v e).world e n)

  replicate-suc : {X : Type 0} (x : X) (n : ℕ) → replicate n x ++ x ∷ [] ≡ replicate (suc n) x
  replicate-suc x zero = refl
  replicate-suc x (suc n) = ap (λ rest. x ∷ rest) (replicate-suc x n)

  pub answers_of_run : (n : ℕ) (machine : State) → IsWithin r.remaining n → run n ≡ Some machine → answers w (replicate n (Step by id)) ≡ replicate n (Answered S.Ran)
  answers_of_run zero machine within is = refl
  answers_of_run (suc n) machine within is =
      let (before, so_far, last) = and_then (local_next r.image r.breakpoints (r.control.pass && (n == 0))) (run n) machine is in
      answers-suc w (Step by id) n
      ∙ ap (λ xs. xs ++ (after (replay_from w (replicate n (Step by id))) (Step by id)).answer ∷ []) (answers_of_run n before (within-fewer r.remaining n (suc n) (omega arith) within) so_far)
      ∙ ap (λ a. replicate n (Answered S.Ran) ++ a ∷ [])
      (ap (λ v. (after v (Step by id)).answer) (world_after_run n before (within-fewer r.remaining n (suc n) (omega arith) within) so_far)
      ∙ one_answer (world_at n before) by id (record_at n before) machine (goes_on_at n before machine within so_far last))
      ∙ replicate-suc (Answered S.Ran) n

-- ---- the law

at_least_one : (w : World) (by id : ℕ) (r : Rec) (held : map.get w.records id ≡ Some r) (running : r.control.status ≡ Running) (untraced : r.traced ≡ false) (n : ℕ) (machine : State) → 1 ≤ n → IsWithin r.remaining n → local_run r.image r.breakpoints r.control.pass r.machine n ≡ Some machine → replay_from w (replicate n (Step by id)) ≡ world_after_work id machine n w
at_least_one w by id r held running untraced zero machine some within is = absurd (omega arith)
at_least_one w by id r held running untraced (suc n) machine some within is =
    world_after_run w by id r held running untraced (suc n) machine within is
    ∙ sym (ap (λ o. record w { records = records_with o id (record_after_work (suc n) machine) w.records; events = w.events + suc n }) held)

pub world_of_run : (w : World) (by id : ℕ) (r : Rec) (n : ℕ) (machine : State) → RunsAlone w id r n machine → replay_from w (replicate n (Step by id)) ≡ world_after_work id machine n w
world_of_run w by id r n machine alone = at_least_one w by id r alone.held alone.running alone.untraced n machine alone.some alone.within alone.ran

pub answers_alone : (w : World) (by id : ℕ) (r : Rec) (n : ℕ) (machine : State) → RunsAlone w id r n machine → answers w (replicate n (Step by id)) ≡ replicate n (Answered S.Ran)
answers_alone w by id r n machine alone = answers_of_run w by id r alone.held alone.running alone.untraced n machine alone.within alone.ran
