use Rattle.std.proofs.Common.{ℕ, ◌<◌, ◌^◌}
use Rattle.bpf_text.specs.Number.{IsNumeral}
use Rattle.bpf_text.specs.Mirror.Reads.{state}
use Rattle.bpf_text.proofs.ReadLemmas.{token_read}
use Rattle.bpf_text.proofs.operands.Operands.number.Goals as goal

pub returns : goal.returns
returns c = token_read (λ (n : ℕ). n) IsNumeral (λ (n : ℕ). n < 2 ^ 64) (state c.args.self.now) (state c.token.new.self) (state c.note.new.self) c.in_ok-token.field-0.now c.numeral-number.result c.note.result c.in_ok-token.ensures c.numeral-number.ensures c.note.ensures.range c.note.ensures.rest
