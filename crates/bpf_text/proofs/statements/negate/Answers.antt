use Rattle.std.proofs.Common.{Some, None}
use Rattle.bpf_text.specs.Mirror.Reads.{state}
use Rattle.bpf_text.proofs.JudgeLemmas.{negate}
use Rattle.bpf_text.proofs.statements.negate.Goals as goal

pub returns-in_err-dst : goal.returns-in_err-dst
returns-in_err-dst c = rw c.from_residual.ensures (negate c.args.width (state c.args.operands.now) None (state c.register.new.self) c.in_err-dst.ensures)

pub returns : goal.returns
returns c = rw c.plain.ensures (negate c.args.width (state c.args.operands.now) (Some c.in_ok-dst.dst) (state c.register.new.self) c.in_ok-dst.ensures)
