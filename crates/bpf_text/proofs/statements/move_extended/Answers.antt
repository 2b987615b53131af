use Rattle.std.proofs.Common.{ℕ, [], ◌∷◌, Option, Some, None}
use Rattle.bpf_types.specs.Line.{IsReg}
use Rattle.bpf_types.specs.declared.line.Extension.{Extension}
use Rattle.bpf_text.specs.Fields.{IsRegister}
use Rattle.bpf_text.specs.Mirror.Gives.{bits_in, IsWidth, HasExtension}
use Rattle.bpf_text.specs.Grammar.{Token, After, Then}
use Rattle.bpf_text.specs.Mirror.Reads.{state}
use Rattle.bpf_text.proofs.ReadLemmas.{then_next, after_next}
use Rattle.bpf_text.proofs.JudgeLemmas.{move_extended}
use Rattle.bpf_text.proofs.statements.move_extended.Goals as goal

pub returns-in_err-dst : goal.returns-in_err-dst
returns-in_err-dst c = rw c.from_residual.ensures (move_extended c.args.width (state c.args.operands.now) None (state c.register.new.self) (λ w rest m. c.in_err-dst.ensures w.0 m.0 m.1))

pub returns-in_err-expect : goal.returns-in_err-expect
returns-in_err-expect c = rw c.from_residual-in_err-expect.ensures (move_extended c.args.width (state c.args.operands.now) None (state c.expect.new.self) (then_next c.in_ok-dst.ensures (λ (p : (ℕ) × (Extension)). ((λ (n : ℕ). n) p.0, (bits_in c.args.width) p.1)) (After (44 ∷ []) (Then (Token IsRegister) (After (44 ∷ []) (Token IsWidth)))) (λ (p : (ℕ) × (Option ℕ)). IsReg p.0 × (HasExtension c.args.width) p.1) None (state c.expect.new.self) (λ w rest m. c.in_err-expect.ensures.none m.0 m.1)))

pub returns-in_err-src : goal.returns-in_err-src
returns-in_err-src c = rw c.from_residual-in_err-src.ensures (move_extended c.args.width (state c.args.operands.now) None (state c.register-2.new.self) (then_next c.in_ok-dst.ensures (λ (p : (ℕ) × (Extension)). ((λ (n : ℕ). n) p.0, (bits_in c.args.width) p.1)) (After (44 ∷ []) (Then (Token IsRegister) (After (44 ∷ []) (Token IsWidth)))) (λ (p : (ℕ) × (Option ℕ)). IsReg p.0 × (HasExtension c.args.width) p.1) None (state c.register-2.new.self) (after_next (44 ∷ []) (state c.register.new.self) (state c.expect.new.self) c.in_ok-expect.ensures.some (λ (p : (ℕ) × (Extension)). ((λ (n : ℕ). n) p.0, (bits_in c.args.width) p.1)) (Then (Token IsRegister) (After (44 ∷ []) (Token IsWidth))) (λ (p : (ℕ) × (Option ℕ)). IsReg p.0 × (HasExtension c.args.width) p.1) None (state c.register-2.new.self) (λ w rest m. c.in_err-src.ensures w.0 m.0 m.1))))

pub returns-in_err-expect-2 : goal.returns-in_err-expect-2
returns-in_err-expect-2 c = rw c.from_residual-in_err-expect-2.ensures (move_extended c.args.width (state c.args.operands.now) None (state c.expect-2.new.self) (then_next c.in_ok-dst.ensures (λ (p : (ℕ) × (Extension)). ((λ (n : ℕ). n) p.0, (bits_in c.args.width) p.1)) (After (44 ∷ []) (Then (Token IsRegister) (After (44 ∷ []) (Token IsWidth)))) (λ (p : (ℕ) × (Option ℕ)). IsReg p.0 × (HasExtension c.args.width) p.1) None (state c.expect-2.new.self) (after_next (44 ∷ []) (state c.register.new.self) (state c.expect.new.self) c.in_ok-expect.ensures.some (λ (p : (ℕ) × (Extension)). ((λ (n : ℕ). n) p.0, (bits_in c.args.width) p.1)) (Then (Token IsRegister) (After (44 ∷ []) (Token IsWidth))) (λ (p : (ℕ) × (Option ℕ)). IsReg p.0 × (HasExtension c.args.width) p.1) None (state c.expect-2.new.self) (then_next c.in_ok-src.ensures (bits_in c.args.width) (After (44 ∷ []) (Token IsWidth)) (HasExtension c.args.width) None (state c.expect-2.new.self) (λ w rest m. c.in_err-expect-2.ensures.none m.0 m.1)))))

pub returns-in_err-extension : goal.returns-in_err-extension
returns-in_err-extension c = rw c.from_residual-in_err-extension.ensures (move_extended c.args.width (state c.args.operands.now) None (state c.extension.new.self) (then_next c.in_ok-dst.ensures (λ (p : (ℕ) × (Extension)). ((λ (n : ℕ). n) p.0, (bits_in c.args.width) p.1)) (After (44 ∷ []) (Then (Token IsRegister) (After (44 ∷ []) (Token IsWidth)))) (λ (p : (ℕ) × (Option ℕ)). IsReg p.0 × (HasExtension c.args.width) p.1) None (state c.extension.new.self) (after_next (44 ∷ []) (state c.register.new.self) (state c.expect.new.self) c.in_ok-expect.ensures.some (λ (p : (ℕ) × (Extension)). ((λ (n : ℕ). n) p.0, (bits_in c.args.width) p.1)) (Then (Token IsRegister) (After (44 ∷ []) (Token IsWidth))) (λ (p : (ℕ) × (Option ℕ)). IsReg p.0 × (HasExtension c.args.width) p.1) None (state c.extension.new.self) (then_next c.in_ok-src.ensures (bits_in c.args.width) (After (44 ∷ []) (Token IsWidth)) (HasExtension c.args.width) None (state c.extension.new.self) (after_next (44 ∷ []) (state c.register-2.new.self) (state c.expect-2.new.self) c.in_ok-expect-2.ensures.some (bits_in c.args.width) (Token IsWidth) (HasExtension c.args.width) None (state c.extension.new.self) c.in_err-extension.ensures)))))

pub returns : goal.returns
returns c = rw c.plain.ensures (move_extended c.args.width (state c.args.operands.now) (Some (c.in_ok-dst.dst, (c.in_ok-src.src, c.in_ok-extension.extension))) (state c.extension.new.self) (then_next c.in_ok-dst.ensures (λ (p : (ℕ) × (Extension)). ((λ (n : ℕ). n) p.0, (bits_in c.args.width) p.1)) (After (44 ∷ []) (Then (Token IsRegister) (After (44 ∷ []) (Token IsWidth)))) (λ (p : (ℕ) × (Option ℕ)). IsReg p.0 × (HasExtension c.args.width) p.1) (Some (c.in_ok-src.src, c.in_ok-extension.extension)) (state c.extension.new.self) (after_next (44 ∷ []) (state c.register.new.self) (state c.expect.new.self) c.in_ok-expect.ensures.some (λ (p : (ℕ) × (Extension)). ((λ (n : ℕ). n) p.0, (bits_in c.args.width) p.1)) (Then (Token IsRegister) (After (44 ∷ []) (Token IsWidth))) (λ (p : (ℕ) × (Option ℕ)). IsReg p.0 × (HasExtension c.args.width) p.1) (Some (c.in_ok-src.src, c.in_ok-extension.extension)) (state c.extension.new.self) (then_next c.in_ok-src.ensures (bits_in c.args.width) (After (44 ∷ []) (Token IsWidth)) (HasExtension c.args.width) (Some c.in_ok-extension.extension) (state c.extension.new.self) (after_next (44 ∷ []) (state c.register-2.new.self) (state c.expect-2.new.self) c.in_ok-expect-2.ensures.some (bits_in c.args.width) (Token IsWidth) (HasExtension c.args.width) (Some c.in_ok-extension.extension) (state c.extension.new.self) c.in_ok-extension.ensures)))))
