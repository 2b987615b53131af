use Rattle.std.proofs.Common.{ℕ, ℤ, [], ◌∷◌, Some, None, FitsSigned, SFits, to_z-of_z, rules}
use Rattle.std.specs.Int.{w16}
use Rattle.bpf_types.specs.Line.{IsReg}
use Rattle.bpf_text.specs.Fields.{IsRegister}
use Rattle.bpf_text.specs.Grammar.{Token, Then, Bracket}
use Rattle.bpf_text.specs.Mirror.Reads.{state}
use Rattle.bpf_text.proofs.ReadLemmas.{then_next, after_next}
use Rattle.bpf_text.proofs.operands.Operands.memory.Goals as goal

pub returns-in_err-base : goal.returns-in_err-base
returns-in_err-base c = rw c.from_residual-in_err-base.ensures
    (after_next (91 ∷ []) (state c.args.self.now) (state c.expect.new.self) c.in_ok-expect.ensures.some (λ (p : ℕ × ℤ). (p.0, p.1)) (Then (Token IsRegister) Bracket) (λ (v : ℕ × ℤ). IsReg v.0 × FitsSigned w16 v.1) None (state c.register.new.self) (λ w rest m. c.in_err-base.ensures w.0 m.0 m.1))

pub returns-in_err-offset : goal.returns-in_err-offset
returns-in_err-offset c = rw c.from_residual-in_err-offset.ensures
    (after_next (91 ∷ []) (state c.args.self.now) (state c.expect.new.self) c.in_ok-expect.ensures.some (λ (p : ℕ × ℤ). (p.0, p.1)) (Then (Token IsRegister) Bracket) (λ (v : ℕ × ℤ). IsReg v.0 × FitsSigned w16 v.1) None (state c.offset.new.self) (then_next c.in_ok-base.ensures (λ (z : ℤ). z) Bracket (FitsSigned w16) None (state c.offset.new.self) c.in_err-offset.ensures))

pub returns : goal.returns
returns c =
    let f : SFits w16 c.in_ok-offset.offset = search rules in
    rw (to_z-of_z f) (after_next (91 ∷ []) (state c.args.self.now) (state c.expect.new.self) c.in_ok-expect.ensures.some (λ (p : ℕ × ℤ). (p.0, p.1)) (Then (Token IsRegister) Bracket) (λ (v : ℕ × ℤ). IsReg v.0 × FitsSigned w16 v.1) (Some (c.in_ok-base.base, c.in_ok-offset.offset)) (state c.offset.new.self) (then_next c.in_ok-base.ensures (λ (z : ℤ). z) Bracket (FitsSigned w16) (Some c.in_ok-offset.offset) (state c.offset.new.self) c.in_ok-offset.ensures))
