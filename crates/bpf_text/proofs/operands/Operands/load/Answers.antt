use Rattle.std.proofs.Common.{ℕ, ℤ, [], ◌∷◌, Some, None, FitsSigned, SFits, to_z-of_z, rules}
use Rattle.std.specs.Int.{w16}
use Rattle.bpf_types.specs.Line.{IsReg}
use Rattle.bpf_text.specs.Grammar.{After, Memory}
use Rattle.bpf_text.specs.Mirror.Reads.{state}
use Rattle.bpf_text.proofs.ReadLemmas.{then_next, after_next}
use Rattle.bpf_text.proofs.operands.Operands.load.Goals as goal

pub returns-in_err-dst : goal.returns-in_err-dst
returns-in_err-dst c = rw c.from_residual.ensures (λ w rest m. c.in_err-dst.ensures w.0 m.0 m.1)

pub returns-in_err-expect : goal.returns-in_err-expect
returns-in_err-expect c = rw c.from_residual-in_err-expect.ensures
    (then_next c.in_ok-dst.ensures (λ (p : ℕ × ℤ). (p.0, p.1)) (After (44 ∷ []) Memory) (λ (v : ℕ × ℤ). IsReg v.0 × FitsSigned w16 v.1) None (state c.expect.new.self) (λ w rest m. c.in_err-expect.ensures.none m.0 m.1))

pub returns-in_err-base : goal.returns-in_err-base
returns-in_err-base c = rw c.from_residual-in_err-base.ensures
    (then_next c.in_ok-dst.ensures (λ (p : ℕ × ℤ). (p.0, p.1)) (After (44 ∷ []) Memory) (λ (v : ℕ × ℤ). IsReg v.0 × FitsSigned w16 v.1) None (state c.memory.new.self)
    (after_next (44 ∷ []) (state c.register.new.self) (state c.expect.new.self) c.in_ok-expect.ensures.some (λ (p : ℕ × ℤ). (p.0, p.1)) Memory (λ (v : ℕ × ℤ). IsReg v.0 × FitsSigned w16 v.1) None (state c.memory.new.self) c.in_err-base.ensures))

pub returns : goal.returns
returns c =
    let f : SFits w16 c.in_ok-base.offset = search rules in
    rw (to_z-of_z f) (then_next c.in_ok-dst.ensures (λ (p : ℕ × ℤ). (p.0, p.1)) (After (44 ∷ []) Memory) (λ (v : ℕ × ℤ). IsReg v.0 × FitsSigned w16 v.1) (Some (c.in_ok-base.base, c.in_ok-base.offset)) (state c.memory.new.self)
    (after_next (44 ∷ []) (state c.register.new.self) (state c.expect.new.self) c.in_ok-expect.ensures.some (λ (p : ℕ × ℤ). (p.0, p.1)) Memory (λ (v : ℕ × ℤ). IsReg v.0 × FitsSigned w16 v.1) (Some (c.in_ok-base.base, c.in_ok-base.offset)) (state c.memory.new.self) c.in_ok-base.ensures))
