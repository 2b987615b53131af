use Rattle.std.proofs.Common.{ℕ, ℤ, [], ◌∷◌, Some, None, SFits, to_z-of_z, rules, ap, ◌∙◌}
use Rattle.std.specs.Int.{w16}
use Rattle.bpf_types.specs.Line.{IsReg}
use Rattle.bpf_types.specs.declared.line.Line.TheVariants as line
use Rattle.bpf_text.specs.Fields.{IsRegister}
use Rattle.bpf_text.specs.Grammar.{Token, After}
use Rattle.bpf_text.specs.Mirror.Reads.{state}
use Rattle.bpf_text.proofs.ReadLemmas.{then_next, after_next}
use Rattle.bpf_text.proofs.JudgeLemmas.{store, plain}
use Rattle.bpf_text.proofs.statements.store.Goals as goal

pub returns-in_err-base : goal.returns-in_err-base
returns-in_err-base c = rw c.from_residual.ensures (store c.args.size (state c.args.operands.now) None (state c.memory.new.self) (λ w rest m. c.in_err-base.ensures w.0 m.0 m.1))

pub returns-in_err-expect : goal.returns-in_err-expect
returns-in_err-expect c = rw c.from_residual-in_err-expect.ensures (store c.args.size (state c.args.operands.now) None (state c.expect.new.self) (then_next c.in_ok-base.ensures (λ (n : ℕ). n) (After (44 ∷ []) (Token IsRegister)) IsReg None (state c.expect.new.self) (λ w rest m. c.in_err-expect.ensures.none m.0 m.1)))

pub returns-in_err-src : goal.returns-in_err-src
returns-in_err-src c = rw c.from_residual-in_err-src.ensures (store c.args.size (state c.args.operands.now) None (state c.register.new.self) (then_next c.in_ok-base.ensures (λ (n : ℕ). n) (After (44 ∷ []) (Token IsRegister)) IsReg None (state c.register.new.self) (after_next (44 ∷ []) (state c.memory.new.self) (state c.expect.new.self) c.in_ok-expect.ensures.some (λ (n : ℕ). n) (Token IsRegister) IsReg None (state c.register.new.self) c.in_err-src.ensures)))

pub returns : goal.returns
returns c = let f : SFits w16 c.in_ok-base.offset = search rules in rw (c.plain.ensures ∙ ap (λ (y : ℤ). Some (plain (line.Store c.args.size c.in_ok-base.base y c.in_ok-src.src))) (to_z-of_z f)) (store c.args.size (state c.args.operands.now) (Some ((c.in_ok-base.base, c.in_ok-base.offset), c.in_ok-src.src)) (state c.register.new.self) (then_next c.in_ok-base.ensures (λ (n : ℕ). n) (After (44 ∷ []) (Token IsRegister)) IsReg (Some c.in_ok-src.src) (state c.register.new.self) (after_next (44 ∷ []) (state c.memory.new.self) (state c.expect.new.self) c.in_ok-expect.ensures.some (λ (n : ℕ). n) (Token IsRegister) IsReg (Some c.in_ok-src.src) (state c.register.new.self) c.in_ok-src.ensures)))
