use Rattle.std.proofs.Common.{ℤ, [], ◌∷◌, Some, None, FitsSigned, SFits, to_z, of_z, to_z-of_z, rules, ap, ◌∙◌}
use Rattle.std.specs.Int.{w16, w32}
use Rattle.bpf_types.specs.declared.line.Line.TheVariants as line
use Rattle.bpf_text.specs.Fields.{IsImmediate}
use Rattle.bpf_text.specs.Grammar.{Token, After}
use Rattle.bpf_text.specs.Mirror.Reads.{state}
use Rattle.bpf_text.proofs.ReadLemmas.{then_next, after_next}
use Rattle.bpf_text.proofs.JudgeLemmas.{store_immediate, plain}
use Rattle.bpf_text.proofs.statements.store_immediate.Goals as goal

pub returns-in_err-base : goal.returns-in_err-base
returns-in_err-base c = rw c.from_residual.ensures (store_immediate c.args.size (state c.args.operands.now) None (state c.memory.new.self) (λ w rest m. c.in_err-base.ensures w.0 m.0 m.1))

pub returns-in_err-expect : goal.returns-in_err-expect
returns-in_err-expect c = rw c.from_residual-in_err-expect.ensures (store_immediate c.args.size (state c.args.operands.now) None (state c.expect.new.self) (then_next c.in_ok-base.ensures (λ (z : ℤ). z) (After (44 ∷ []) (Token IsImmediate)) (FitsSigned w32) None (state c.expect.new.self) (λ w rest m. c.in_err-expect.ensures.none m.0 m.1)))

pub returns-in_err-value : goal.returns-in_err-value
returns-in_err-value c = rw c.from_residual-in_err-value.ensures (store_immediate c.args.size (state c.args.operands.now) None (state c.immediate.new.self) (then_next c.in_ok-base.ensures (λ (z : ℤ). z) (After (44 ∷ []) (Token IsImmediate)) (FitsSigned w32) None (state c.immediate.new.self) (after_next (44 ∷ []) (state c.memory.new.self) (state c.expect.new.self) c.in_ok-expect.ensures.some (λ (z : ℤ). z) (Token IsImmediate) (FitsSigned w32) None (state c.immediate.new.self) c.in_err-value.ensures)))

pub returns : goal.returns
returns c = let f : SFits w16 c.in_ok-base.offset = search rules in let g : SFits w32 c.in_ok-value.value = search rules in rw (c.plain.ensures ∙ ap (λ (y : ℤ). Some (plain (line.StoreImmediate c.args.size c.in_ok-base.base y (to_z w32 (of_z w32 c.in_ok-value.value))))) (to_z-of_z f) ∙ ap (λ (y : ℤ). Some (plain (line.StoreImmediate c.args.size c.in_ok-base.base c.in_ok-base.offset y))) (to_z-of_z g)) (store_immediate c.args.size (state c.args.operands.now) (Some ((c.in_ok-base.base, c.in_ok-base.offset), c.in_ok-value.value)) (state c.immediate.new.self) (then_next c.in_ok-base.ensures (λ (z : ℤ). z) (After (44 ∷ []) (Token IsImmediate)) (FitsSigned w32) (Some c.in_ok-value.value) (state c.immediate.new.self) (after_next (44 ∷ []) (state c.memory.new.self) (state c.expect.new.self) c.in_ok-expect.ensures.some (λ (z : ℤ). z) (Token IsImmediate) (FitsSigned w32) (Some c.in_ok-value.value) (state c.immediate.new.self) c.in_ok-value.ensures)))
