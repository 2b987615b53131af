use Rattle.bpf_types.specs.Line.{swap_width_bits}
use Rattle.bpf_text.specs.Mirror.Gives.{HasSwapWidth}
use Rattle.bpf_text.specs.Number.{IsNumeral}
use Rattle.bpf_text.specs.Mirror.Reads.{state}
use Rattle.bpf_text.proofs.ReadLemmas.{token_read}
use Rattle.bpf_text.proofs.operands.Operands.swap_width.Goals as goal

pub returns : goal.returns
returns c = token_read swap_width_bits IsNumeral HasSwapWidth (state c.args.self.now) (state c.token.new.self) (state c.note.new.self) c.in_ok-token.field-0.now c.swap_width-width.result c.note.result c.in_ok-token.ensures c.swap_width-width.ensures c.note.ensures.range c.note.ensures.rest
