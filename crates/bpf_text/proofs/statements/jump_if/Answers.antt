use Rattle.std.proofs.Common.{ℕ, ℤ, List, [], ◌∷◌, Option, Some, None, Bor, FitsSigned, SFits, to_z-of_z, rules, sym, subst}
use Rattle.std.specs.Int.{w16}
use Rattle.bpf_types.specs.Line.{IsOperand}
use Rattle.bpf_types.specs.declared.line.Line.TheVariants as line
use Rattle.bpf_canonical.specs.declared.mnemonic.Mnemonic.TheVariants as word
use Rattle.bpf_canonical.specs.declared.mnemonic.Stem.TheVariants as stem
use Rattle.bpf_types.specs.declared.line.Operand.{Operand}
use Rattle.bpf_text.specs.Fields.{IsSecond, IsTarget}
use Rattle.bpf_text.specs.Judged.{target_of}
use Rattle.bpf_text.specs.Grammar.{Token, After, Then}
use Rattle.bpf_text.specs.Mirror.Reads.{state, Answers}
use Rattle.bpf_text.proofs.ReadLemmas.{then_next, after_next}
use Rattle.bpf_text.proofs.JudgeLemmas.{jump_if}
use Rattle.bpf_text.proofs.statements.jump_if.Goals as goal

pub returns-in_err-dst : goal.returns-in_err-dst
returns-in_err-dst c = rw c.from_residual.ensures (jump_if c.args.width c.args.comparison (state c.args.operands.now) None (state c.register.new.self) (λ w rest m. c.in_err-dst.ensures w.0 m.0 m.1))

pub returns-in_err-expect : goal.returns-in_err-expect
returns-in_err-expect c = rw c.from_residual-in_err-expect.ensures (jump_if c.args.width c.args.comparison (state c.args.operands.now) None (state c.expect.new.self) (then_next c.in_ok-dst.ensures (λ (p : (Operand) × (ℤ × Option (Bor (List ℕ)))). ((λ (o : Operand). o) p.0, target_of p.1)) (After (44 ∷ []) (Then (Token IsSecond) (After (44 ∷ []) (Token IsTarget)))) (λ (p : (Operand) × (ℤ × Option (List ℕ))). IsOperand p.0 × (λ (v : ℤ × Option (List ℕ)). FitsSigned w16 v.0) p.1) None (state c.expect.new.self) (λ w rest m. c.in_err-expect.ensures.none m.0 m.1)))

pub returns-in_err-operand : goal.returns-in_err-operand
returns-in_err-operand c = rw c.from_residual-in_err-operand.ensures (jump_if c.args.width c.args.comparison (state c.args.operands.now) None (state c.second.new.self) (then_next c.in_ok-dst.ensures (λ (p : (Operand) × (ℤ × Option (Bor (List ℕ)))). ((λ (o : Operand). o) p.0, target_of p.1)) (After (44 ∷ []) (Then (Token IsSecond) (After (44 ∷ []) (Token IsTarget)))) (λ (p : (Operand) × (ℤ × Option (List ℕ))). IsOperand p.0 × (λ (v : ℤ × Option (List ℕ)). FitsSigned w16 v.0) p.1) None (state c.second.new.self) (after_next (44 ∷ []) (state c.register.new.self) (state c.expect.new.self) c.in_ok-expect.ensures.some (λ (p : (Operand) × (ℤ × Option (Bor (List ℕ)))). ((λ (o : Operand). o) p.0, target_of p.1)) (Then (Token IsSecond) (After (44 ∷ []) (Token IsTarget))) (λ (p : (Operand) × (ℤ × Option (List ℕ))). IsOperand p.0 × (λ (v : ℤ × Option (List ℕ)). FitsSigned w16 v.0) p.1) None (state c.second.new.self) (λ w rest m. c.in_err-operand.ensures w.0 m.0 m.1))))

pub returns-in_err-expect-2 : goal.returns-in_err-expect-2
returns-in_err-expect-2 c = rw c.from_residual-in_err-expect-2.ensures (jump_if c.args.width c.args.comparison (state c.args.operands.now) None (state c.expect-2.new.self) (then_next c.in_ok-dst.ensures (λ (p : (Operand) × (ℤ × Option (Bor (List ℕ)))). ((λ (o : Operand). o) p.0, target_of p.1)) (After (44 ∷ []) (Then (Token IsSecond) (After (44 ∷ []) (Token IsTarget)))) (λ (p : (Operand) × (ℤ × Option (List ℕ))). IsOperand p.0 × (λ (v : ℤ × Option (List ℕ)). FitsSigned w16 v.0) p.1) None (state c.expect-2.new.self) (after_next (44 ∷ []) (state c.register.new.self) (state c.expect.new.self) c.in_ok-expect.ensures.some (λ (p : (Operand) × (ℤ × Option (Bor (List ℕ)))). ((λ (o : Operand). o) p.0, target_of p.1)) (Then (Token IsSecond) (After (44 ∷ []) (Token IsTarget))) (λ (p : (Operand) × (ℤ × Option (List ℕ))). IsOperand p.0 × (λ (v : ℤ × Option (List ℕ)). FitsSigned w16 v.0) p.1) None (state c.expect-2.new.self) (then_next c.in_ok-operand.ensures target_of (After (44 ∷ []) (Token IsTarget)) (λ (v : ℤ × Option (List ℕ)). FitsSigned w16 v.0) None (state c.expect-2.new.self) (λ w rest m. c.in_err-expect-2.ensures.none m.0 m.1)))))

pub returns-in_err-distance : goal.returns-in_err-distance
returns-in_err-distance c = rw c.from_residual-in_err-distance.ensures (jump_if c.args.width c.args.comparison (state c.args.operands.now) None (state c.short_target.new.self) (then_next c.in_ok-dst.ensures (λ (p : (Operand) × (ℤ × Option (Bor (List ℕ)))). ((λ (o : Operand). o) p.0, target_of p.1)) (After (44 ∷ []) (Then (Token IsSecond) (After (44 ∷ []) (Token IsTarget)))) (λ (p : (Operand) × (ℤ × Option (List ℕ))). IsOperand p.0 × (λ (v : ℤ × Option (List ℕ)). FitsSigned w16 v.0) p.1) None (state c.short_target.new.self) (after_next (44 ∷ []) (state c.register.new.self) (state c.expect.new.self) c.in_ok-expect.ensures.some (λ (p : (Operand) × (ℤ × Option (Bor (List ℕ)))). ((λ (o : Operand). o) p.0, target_of p.1)) (Then (Token IsSecond) (After (44 ∷ []) (Token IsTarget))) (λ (p : (Operand) × (ℤ × Option (List ℕ))). IsOperand p.0 × (λ (v : ℤ × Option (List ℕ)). FitsSigned w16 v.0) p.1) None (state c.short_target.new.self) (then_next c.in_ok-operand.ensures target_of (After (44 ∷ []) (Token IsTarget)) (λ (v : ℤ × Option (List ℕ)). FitsSigned w16 v.0) None (state c.short_target.new.self) (after_next (44 ∷ []) (state c.second.new.self) (state c.expect-2.new.self) c.in_ok-expect-2.ensures.some target_of (Token IsTarget) (λ (v : ℤ × Option (List ℕ)). FitsSigned w16 v.0) None (state c.short_target.new.self) c.in_err-distance.ensures)))))

pub returns : goal.returns
returns c = let f : SFits w16 c.in_ok-distance.distance = search rules in subst (λ (y : ℤ). Answers (word.Classed (stem.JumpIf c.args.comparison) c.args.width) (state c.args.operands.now) (Some (record { line = line.JumpIf c.args.width c.args.comparison c.in_ok-dst.dst c.in_ok-operand.operand y; name = c.in_ok-distance.name })) (state c.short_target.new.self)) (sym (to_z-of_z f)) (jump_if c.args.width c.args.comparison (state c.args.operands.now) (Some (c.in_ok-dst.dst, (c.in_ok-operand.operand, (c.in_ok-distance.distance, c.in_ok-distance.name)))) (state c.short_target.new.self) (then_next c.in_ok-dst.ensures (λ (p : (Operand) × (ℤ × Option (Bor (List ℕ)))). ((λ (o : Operand). o) p.0, target_of p.1)) (After (44 ∷ []) (Then (Token IsSecond) (After (44 ∷ []) (Token IsTarget)))) (λ (p : (Operand) × (ℤ × Option (List ℕ))). IsOperand p.0 × (λ (v : ℤ × Option (List ℕ)). FitsSigned w16 v.0) p.1) (Some (c.in_ok-operand.operand, (c.in_ok-distance.distance, c.in_ok-distance.name))) (state c.short_target.new.self) (after_next (44 ∷ []) (state c.register.new.self) (state c.expect.new.self) c.in_ok-expect.ensures.some (λ (p : (Operand) × (ℤ × Option (Bor (List ℕ)))). ((λ (o : Operand). o) p.0, target_of p.1)) (Then (Token IsSecond) (After (44 ∷ []) (Token IsTarget))) (λ (p : (Operand) × (ℤ × Option (List ℕ))). IsOperand p.0 × (λ (v : ℤ × Option (List ℕ)). FitsSigned w16 v.0) p.1) (Some (c.in_ok-operand.operand, (c.in_ok-distance.distance, c.in_ok-distance.name))) (state c.short_target.new.self) (then_next c.in_ok-operand.ensures target_of (After (44 ∷ []) (Token IsTarget)) (λ (v : ℤ × Option (List ℕ)). FitsSigned w16 v.0) (Some (c.in_ok-distance.distance, c.in_ok-distance.name)) (state c.short_target.new.self) (after_next (44 ∷ []) (state c.second.new.self) (state c.expect-2.new.self) c.in_ok-expect-2.ensures.some target_of (Token IsTarget) (λ (v : ℤ × Option (List ℕ)). FitsSigned w16 v.0) (Some (c.in_ok-distance.distance, c.in_ok-distance.name)) (state c.short_target.new.self) c.in_ok-distance.ensures)))))
