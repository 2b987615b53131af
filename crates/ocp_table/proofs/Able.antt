-- A machine at an instruction has an outcome.
use Rattle.std.proofs.Common.{◌≡◌, ◌<◌, ℕ, ℤ, Bool, true, false, cond, List, Option, Some, None, refl, sym, ap, ◌∙◌}
use Rattle.std.specs.Prelude.{Result, Ok, Err, IsSome, IsOk}
use Rattle.bpf_types.specs.declared.line.Line.{Line}
use Rattle.bpf_types.specs.declared.line.Line.TheVariants as line
use Rattle.ocp_regions.specs.Memory.{Octets}
use Rattle.ocp_regions.specs.declared.fault.AccessFault.{AccessFault}
use Rattle.ocp_loader.specs.LineAt.{line_of, IsPlace, IsLineAt}
use Rattle.ocp_loader.specs.declared.program.TheConstants.{MAX_SLOTS}
use Rattle.bpf_step.specs.declared.frame.Frame.{Frame}
use Rattle.bpf_step.specs.declared.answer.Local.TheVariants as local
use Rattle.bpf_step.specs.declared.answer.Need.{Need}
use Rattle.bpf_step.specs.declared.answer.Need.TheVariants as need
use Rattle.bpf_step.specs.Machine.{State, Outcome, Next, Needs, NoInstruction, read}
use Rattle.bpf_moves.specs.Moves.{load_register, store_memory}
use Rattle.bpf_step.specs.Calls.{call_unless_full, exit_to}
use Rattle.bpf_step.specs.Step.{outcome_by, step, step_of, one_step, Gives}
use Rattle.ocp_pool.specs.Call.{engine_call}
use Rattle.ocp_table.specs.declared.answers.InstructionOutcome.{InstructionOutcome}
use Rattle.ocp_table.specs.declared.answers.InstructionOutcome.TheVariants.{Broke, Faulted}
use Rattle.ocp_table.specs.declared.fault.ProcedureFault.TheVariants.{BudgetSpent}
use Rattle.ocp_table.specs.Budgets.{is_spent}
use Rattle.ocp_table.specs.Records.{Rec}
use Rattle.bpf_step.specs.Runs.{breaks_at}
use Rattle.ocp_table.specs.Deciding.{outcome_of, outcome_of_call, outcome_in}

module _ (m : State) (pool mailbox : List ℕ) where
  able_loads : (s : State) (dst : ℕ) (f : ℕ → ℕ) (r : Result ℕ AccessFault) → IsSome (outcome_of (outcome_by s (load_register s.registers s.memory dst f r) NoInstruction) m pool mailbox)
  able_loads s dst f (Ok v) = refl
  able_loads s dst f (Err e) = refl

  able_stores : (s : State) (r : Result Octets AccessFault) → IsSome (outcome_of (outcome_by s (store_memory s.registers r) NoInstruction) m pool mailbox)
  able_stores s (Ok memory) = refl
  able_stores s (Err e) = refl

  able_calls : (s : State) (distance : ℤ) (full : Bool) → IsSome (outcome_of (call_unless_full s distance full) m pool mailbox)
  able_calls s distance true = refl
  able_calls s distance false = refl

  able_exits : (s : State) (o : Option Frame) → IsSome (outcome_of (exit_to s o) m pool mailbox)
  able_exits s (Some f) = refl
  able_exits s None = refl

  able_step : (l : Line) (s : State) → IsSome (outcome_of (step l s) m pool mailbox)
  able_step (line.CallLocal distance) s = able_calls s distance _
  able_step line.Exit s = able_exits s _
  able_step (line.Load size dst base offset) s = able_loads s dst _ _
  able_step (line.LoadExtended size dst base offset) s = able_loads s dst _ _
  able_step (line.StoreImmediate size base offset value) s = able_stores s _
  able_step (line.Store size base offset src) s = able_stores s _
  able_step l s = refl

  pub able : (image : List ℕ) (s : State) → IsPlace image s.place → IsSome (outcome_of (one_step image s) m pool mailbox)
  able image s place =
      elim (line_of image s.place) as (λ o. IsSome o → IsSome (outcome_of (step_of o s) m pool mailbox)) [
        | Some l ↦ λ here. able_step l s
        | None ↦ λ here. absurd (cc)
      ] place

-- a machine that needs an engine call is as before it, and the call is its outcome
pub needs_call : (asked : Need) (number : ℤ) (old new : State) (o : Outcome) (pool mailbox : List ℕ) → asked ≡ need.Call number → Gives (local.NeedsEngine asked) old new o →
    outcome_of o old pool mailbox ≡ Some (outcome_of_call (engine_call number (read new 1) (read new 2) (read new 3) pool mailbox))
needs_call asked number old new (Next s) pool mailbox is given = absurd given
needs_call asked number old new NoInstruction pool mailbox is given = absurd given
needs_call asked number old new (Needs found) pool mailbox is given =
    ap (λ k. outcome_of (Needs k) old pool mailbox) (sym given.0 ∙ is)
    ∙ ap (λ s. Some (outcome_of_call (engine_call number (read s 1) (read s 2) (read s 3) pool mailbox))) (sym given.1)

-- the machine is left as it was
pub needs_kept : (asked : Need) (old new : State) (o : Outcome) → Gives (local.NeedsEngine asked) old new o → new ≡ old
needs_kept asked old new (Next s) given = absurd given
needs_kept asked old new NoInstruction given = absurd given
needs_kept asked old new (Needs found) given = given.1

-- with breakpoints or without
pub able_in : (r : Rec) (pool : List ℕ) → IsSome (outcome_of (one_step r.image r.machine) r.machine pool r.mailbox) → IsSome (outcome_in r pool)
able_in r pool able =
    elim (breaks_at r.control.pass r.breakpoints r.machine.place) as (λ b. IsSome (cond {A = Option InstructionOutcome} b (Some Broke) (cond (is_spent r.remaining) (Some (Faulted BudgetSpent)) (outcome_of (one_step r.image r.machine) r.machine pool r.mailbox)))) [
      | true ↦ refl
      | false ↦ elim (is_spent r.remaining) as (λ b. IsSome (cond {A = Option InstructionOutcome} b (Some (Faulted BudgetSpent)) (outcome_of (one_step r.image r.machine) r.machine pool r.mailbox))) [
        | true ↦ refl
        | false ↦ able
      ]
    ]

-- the value of an Ok
pub lines_of : {X E : Type 0} (r : Result X E) → IsOk r → (x : X) × (r ≡ Ok x)
lines_of (Ok x) is = (x, refl)
lines_of (Err e) is = absurd (cc)

-- an instruction's place is below the largest number of slots
pub small_place : (image : List ℕ) (slot : ℕ) → ((l : Line) → line_of image slot ≡ Some l → IsLineAt image slot l) → IsPlace image slot → slot < MAX_SLOTS
small_place image slot known place =
    elim (line_of image slot) as (λ o. line_of image slot ≡ o → IsSome o → slot < MAX_SLOTS) [
      | Some l ↦ λ is here. (known l is).small
      | None ↦ λ is here. absurd (cc)
    ] refl place
