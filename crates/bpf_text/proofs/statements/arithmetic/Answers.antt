use Rattle.std.proofs.Common.{[], ◌∷◌, Some, None}
use Rattle.bpf_types.specs.Line.{IsOperand}
use Rattle.bpf_types.specs.declared.line.Operand.{Operand}
use Rattle.bpf_text.specs.Fields.{IsSecond}
use Rattle.bpf_text.specs.Grammar.{Token, After}
use Rattle.bpf_text.specs.Mirror.Reads.{state}
use Rattle.bpf_text.proofs.ReadLemmas.{then_next, after_next}
use Rattle.bpf_text.proofs.JudgeLemmas.{arithmetic}
use Rattle.bpf_text.proofs.statements.arithmetic.Goals as goal

pub returns-in_err-dst : goal.returns-in_err-dst
returns-in_err-dst c = rw c.from_residual.ensures (arithmetic c.args.width c.args.operation (state c.args.operands.now) None (state c.register.new.self) (λ w rest m. c.in_err-dst.ensures w.0 m.0 m.1))

pub returns-in_err-expect : goal.returns-in_err-expect
returns-in_err-expect c = rw c.from_residual-in_err-expect.ensures (arithmetic c.args.width c.args.operation (state c.args.operands.now) None (state c.expect.new.self) (then_next c.in_ok-dst.ensures (λ (o : Operand). o) (After (44 ∷ []) (Token IsSecond)) IsOperand None (state c.expect.new.self) (λ w rest m. c.in_err-expect.ensures.none m.0 m.1)))

pub returns-in_err-operand : goal.returns-in_err-operand
returns-in_err-operand c = rw c.from_residual-in_err-operand.ensures (arithmetic c.args.width c.args.operation (state c.args.operands.now) None (state c.second.new.self) (then_next c.in_ok-dst.ensures (λ (o : Operand). o) (After (44 ∷ []) (Token IsSecond)) IsOperand None (state c.second.new.self) (after_next (44 ∷ []) (state c.register.new.self) (state c.expect.new.self) c.in_ok-expect.ensures.some (λ (o : Operand). o) (Token IsSecond) IsOperand None (state c.second.new.self) c.in_err-operand.ensures)))

pub returns : goal.returns
returns c = rw c.plain.ensures (arithmetic c.args.width c.args.operation (state c.args.operands.now) (Some (c.in_ok-dst.dst, c.in_ok-operand.operand)) (state c.second.new.self) (then_next c.in_ok-dst.ensures (λ (o : Operand). o) (After (44 ∷ []) (Token IsSecond)) IsOperand (Some c.in_ok-operand.operand) (state c.second.new.self) (after_next (44 ∷ []) (state c.register.new.self) (state c.expect.new.self) c.in_ok-expect.ensures.some (λ (o : Operand). o) (Token IsSecond) IsOperand (Some c.in_ok-operand.operand) (state c.second.new.self) c.in_ok-operand.ensures)))
