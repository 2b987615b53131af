use Rattle.std.proofs.Common.{ℤ, FitsSigned}
use Rattle.std.specs.Int.{w32}
use Rattle.bpf_text.specs.Fields.{IsImmediate}
use Rattle.bpf_text.specs.Mirror.Reads.{state}
use Rattle.bpf_text.proofs.ReadLemmas.{token_read}
use Rattle.bpf_text.proofs.operands.Operands.immediate.Goals as goal

pub returns : goal.returns
returns c = token_read (λ (z : ℤ). z) IsImmediate (FitsSigned w32) (state c.args.self.now) (state c.token.new.self) (state c.note.new.self) c.in_ok-token.field-0.now c.immediate-immediate.result c.note.result c.in_ok-token.ensures c.immediate-immediate.ensures c.note.ensures.range c.note.ensures.rest
