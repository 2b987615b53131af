use Rattle.std.proofs.Common.{◌<◌, ◌^◌, ℕ, [], ◌∷◌, Some, None}
use Rattle.bpf_text.specs.Number.{IsNumeral}
use Rattle.bpf_text.specs.Grammar.{Token, After}
use Rattle.bpf_text.specs.Mirror.Reads.{state}
use Rattle.bpf_text.proofs.ReadLemmas.{then_next, after_next}
use Rattle.bpf_text.proofs.JudgeLemmas.{load_wide}
use Rattle.bpf_text.proofs.statements.load_wide.Goals as goal

pub returns-in_err-dst : goal.returns-in_err-dst
returns-in_err-dst c = rw c.from_residual.ensures (load_wide (state c.args.operands.now) None (state c.register.new.self) (λ w rest m. c.in_err-dst.ensures w.0 m.0 m.1))

pub returns-in_err-expect : goal.returns-in_err-expect
returns-in_err-expect c = rw c.from_residual-in_err-expect.ensures (load_wide (state c.args.operands.now) None (state c.expect.new.self) (then_next c.in_ok-dst.ensures (λ (n : ℕ). n) (After (44 ∷ []) (Token IsNumeral)) (λ (n : ℕ). n < 2 ^ 64) None (state c.expect.new.self) (λ w rest m. c.in_err-expect.ensures.none m.0 m.1)))

pub returns-in_err-value : goal.returns-in_err-value
returns-in_err-value c = rw c.from_residual-in_err-value.ensures (load_wide (state c.args.operands.now) None (state c.number.new.self) (then_next c.in_ok-dst.ensures (λ (n : ℕ). n) (After (44 ∷ []) (Token IsNumeral)) (λ (n : ℕ). n < 2 ^ 64) None (state c.number.new.self) (after_next (44 ∷ []) (state c.register.new.self) (state c.expect.new.self) c.in_ok-expect.ensures.some (λ (n : ℕ). n) (Token IsNumeral) (λ (n : ℕ). n < 2 ^ 64) None (state c.number.new.self) c.in_err-value.ensures)))

pub returns : goal.returns
returns c = rw c.plain.ensures (load_wide (state c.args.operands.now) (Some (c.in_ok-dst.dst, c.in_ok-value.value)) (state c.number.new.self) (then_next c.in_ok-dst.ensures (λ (n : ℕ). n) (After (44 ∷ []) (Token IsNumeral)) (λ (n : ℕ). n < 2 ^ 64) (Some c.in_ok-value.value) (state c.number.new.self) (after_next (44 ∷ []) (state c.register.new.self) (state c.expect.new.self) c.in_ok-expect.ensures.some (λ (n : ℕ). n) (Token IsNumeral) (λ (n : ℕ). n < 2 ^ 64) (Some c.in_ok-value.value) (state c.number.new.self) c.in_ok-value.ensures)))
