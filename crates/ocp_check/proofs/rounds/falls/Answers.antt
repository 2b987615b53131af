use Rattle.std.proofs.Common.{rules, arith, ◌≡◌, inl, inr, to_z, of_z, w32, w16, FitsSigned, subst, get_or, Some, None, refl}
use Rattle.std.specs.Prelude.{if◌then◌else◌}
use Rattle.std.proofs.lemmas.Int.{ints}
use Rattle.bpf_moves.specs.Moves.{operand_in, move_by_jump}
use Rattle.bpf_values.specs.Value.{is_taken}
use Rattle.bpf_step.specs.Machine.{Next, NoInstruction, state_after_jump}
use Rattle.bpf_step.specs.Calls.{local_call}
use Rattle.bpf_step.specs.Step.{outcome_by}
use Rattle.ocp_check.specs.Mirror.Fits.{FitsAfter}
use Rattle.ocp_check.specs.Mirror.Ranks.{Falls}
use Rattle.ocp_check.proofs.Falls.{falls_by_line}
use Rattle.ocp_check.proofs.Opening.{alone}
use Rattle.ocp_check.proofs.rounds.falls.Goals as goal

pub returns-in-Arithmetic : goal.returns-in-Arithmetic
returns-in-Arithmetic c = λ h s e i a f.
    falls_by_line _ _ _ _ s c.in-Arithmetic.is (c.write_lowers.ensures h s c.args.most _ e i a (c.step_of_line.ensures c.args.all.now.nodes.now s _ _ _ _ refl i)) f

pub returns-in-Negate : goal.returns-in-Negate
returns-in-Negate c = λ h s e i a f. elim c.in-Negate.is [
  | inl w ↦ falls_by_line _ _ _ _ s w.1 (c.write_lowers-in-Negate.ensures h s c.args.most _ e i a tt) f
  | inr o ↦ elim o [
    | inl w ↦ falls_by_line _ _ _ _ s w.2 (c.write_lowers-in-Negate.ensures h s c.args.most _ e i a tt) f
    | inr w ↦ falls_by_line _ _ _ _ s w.2 (c.write_lowers-in-Negate.ensures h s c.args.most _ e i a tt) f
  ]
]

pub returns-in-LoadWide : goal.returns-in-LoadWide
returns-in-LoadWide c = λ h s e i a f.
    falls_by_line _ _ _ _ s c.in-LoadWide.is (c.write_lowers-in-LoadWide.ensures h s c.args.most c.in-LoadWide.value e i a tt) f

pub returns-in-Load : goal.returns-in-Load
returns-in-Load c = λ h s e i a f. elim c.in-Load.is [
  | inl w ↦ falls_by_line _ _ _ _ s w.3 (c.load_lowers.ensures h s c.args.most _ _ e i a) f
  | inr w ↦ falls_by_line _ _ _ _ s w.3 (c.load_lowers.ensures h s c.args.most _ _ e i a) f
]

pub returns-in-StoreImmediate : goal.returns-in-StoreImmediate
returns-in-StoreImmediate c = λ h s e i a f. elim c.in-StoreImmediate.is [
  | inl w ↦ falls_by_line _ _ _ _ s w.4 (c.store_lowers.ensures h s c.args.most _ e i a) f
  | inr w ↦ falls_by_line _ _ _ _ s w.4 (c.store_lowers.ensures h s c.args.most _ e i a) f
]

pub returns-in-LongJump : goal.returns-in-LongJump
returns-in-LongJump c = λ h s e i a f.
    let same : to_z w32 (of_z w32 c.in-LongJump.distance) ≡ c.in-LongJump.distance = search (rules, c) in
    falls_by_line _ _ _ _ s c.in-LongJump.is (subst (λ z. FitsAfter c.args.all.now.nodes.now s (Next (state_after_jump s (Some z))) → Falls c.args.all.now.ranks.now c.args.all.now.counters.now c.args.most s (Next (state_after_jump s (Some z)))) same (c.jump_lowers-in-LongJump.ensures h s c.args.most e i a)) f

pub returns-in-CallLocal : goal.returns-in-CallLocal
returns-in-CallLocal c = λ h s e i a f.
    let same : to_z w32 (of_z w32 c.in-CallLocal.distance) ≡ c.in-CallLocal.distance = search (rules, c) in
    falls_by_line _ _ _ _ s c.in-CallLocal.is (subst (λ z. FitsAfter c.args.all.now.nodes.now s (local_call s z) → Falls c.args.all.now.ranks.now c.args.all.now.counters.now c.args.most s (local_call s z)) same (c.open_lowers.ensures h s c.args.most e i a)) f

pub returns-in-Jump : goal.returns-in-Jump
returns-in-Jump c = λ h s e i a f.
    let d : FitsSigned w16 c.in-Jump.distance = search (rules, c) in
    let same : to_z w32 (of_z w32 c.from.result) ≡ c.in-Jump.distance = omega (arith, ints, c.from.ensures) in
    falls_by_line _ _ _ _ s c.in-Jump.is (subst (λ z. FitsAfter c.args.all.now.nodes.now s (Next (state_after_jump s (Some z))) → Falls c.args.all.now.ranks.now c.args.all.now.counters.now c.args.most s (Next (state_after_jump s (Some z)))) same (c.jump_lowers.ensures h s c.args.most e i a)) f

pub returns-in-JumpIf : goal.returns-in-JumpIf
returns-in-JumpIf c = λ h s e i a f.
    let d : FitsSigned w16 c.in-JumpIf.distance = search (rules, c) in
    let same : to_z w32 (of_z w32 c.from-in-JumpIf.result) ≡ c.in-JumpIf.distance = omega (arith, ints, c.from-in-JumpIf.ensures) in
    let taken = is_taken c.in-JumpIf.width c.in-JumpIf.comparison (get_or s.registers c.in-JumpIf.dst 0) (operand_in s.registers c.in-JumpIf.operand) in
    falls_by_line _ _ _ _ s c.in-JumpIf.is (subst (λ z. FitsAfter c.args.all.now.nodes.now s (outcome_by s (move_by_jump s.registers s.memory (if taken then Some z else None)) NoInstruction) →
    Falls c.args.all.now.ranks.now c.args.all.now.counters.now c.args.most s (outcome_by s (move_by_jump s.registers s.memory (if taken then Some z else None)) NoInstruction)) same
    (c.branch_lowers.ensures h s c.args.most taken e i a)) f

pub returns-in-Exit : goal.returns-in-Exit
returns-in-Exit c = λ h s e i a f.
    falls_by_line _ _ _ _ s c.in-Exit.is (λ g. c.end_lowers.ensures h s c.args.all.now.counters.now c.args.most e (λ z. alone c.args.all.now.nodes.now c.args.node.now s i z) i.registers.eleven a) f
