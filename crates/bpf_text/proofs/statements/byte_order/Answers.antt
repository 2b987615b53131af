use Rattle.std.proofs.Common.{[], ◌∷◌, Some, None}
use Rattle.bpf_types.specs.Line.{swap_width_bits}
use Rattle.bpf_text.specs.Number.{IsNumeral}
use Rattle.bpf_text.specs.Mirror.Gives.{HasSwapWidth}
use Rattle.bpf_text.specs.Grammar.{Token, After}
use Rattle.bpf_text.specs.Mirror.Reads.{state}
use Rattle.bpf_text.proofs.ReadLemmas.{then_next, after_next}
use Rattle.bpf_text.proofs.JudgeLemmas.{byte_order}
use Rattle.bpf_text.proofs.statements.byte_order.Goals as goal

pub returns-in_err-dst : goal.returns-in_err-dst
returns-in_err-dst c = rw c.from_residual.ensures (byte_order c.args.order (state c.args.operands.now) None (state c.register.new.self) (λ w rest m. c.in_err-dst.ensures w.0 m.0 m.1))

pub returns-in_err-expect : goal.returns-in_err-expect
returns-in_err-expect c = rw c.from_residual-in_err-expect.ensures (byte_order c.args.order (state c.args.operands.now) None (state c.expect.new.self) (then_next c.in_ok-dst.ensures swap_width_bits (After (44 ∷ []) (Token IsNumeral)) HasSwapWidth None (state c.expect.new.self) (λ w rest m. c.in_err-expect.ensures.none m.0 m.1)))

pub returns-in_err-width : goal.returns-in_err-width
returns-in_err-width c = rw c.from_residual-in_err-width.ensures (byte_order c.args.order (state c.args.operands.now) None (state c.swap_width.new.self) (then_next c.in_ok-dst.ensures swap_width_bits (After (44 ∷ []) (Token IsNumeral)) HasSwapWidth None (state c.swap_width.new.self) (after_next (44 ∷ []) (state c.register.new.self) (state c.expect.new.self) c.in_ok-expect.ensures.some swap_width_bits (Token IsNumeral) HasSwapWidth None (state c.swap_width.new.self) c.in_err-width.ensures)))

pub returns : goal.returns
returns c = rw c.plain.ensures (byte_order c.args.order (state c.args.operands.now) (Some (c.in_ok-dst.dst, c.in_ok-width.width)) (state c.swap_width.new.self) (then_next c.in_ok-dst.ensures swap_width_bits (After (44 ∷ []) (Token IsNumeral)) HasSwapWidth (Some c.in_ok-width.width) (state c.swap_width.new.self) (after_next (44 ∷ []) (state c.register.new.self) (state c.expect.new.self) c.in_ok-expect.ensures.some swap_width_bits (Token IsNumeral) HasSwapWidth (Some c.in_ok-width.width) (state c.swap_width.new.self) c.in_ok-width.ensures)))
