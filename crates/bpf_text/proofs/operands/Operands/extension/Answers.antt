use Rattle.bpf_text.specs.Mirror.Gives.{bits_in, IsWidth, HasExtension}
use Rattle.bpf_text.specs.Mirror.Reads.{state}
use Rattle.bpf_text.proofs.ReadLemmas.{token_read}
use Rattle.bpf_text.proofs.operands.Operands.extension.Goals as goal

pub returns : goal.returns
returns c = token_read (bits_in c.args.width) IsWidth (HasExtension c.args.width) (state c.args.self.now) (state c.token.new.self) (state c.note.new.self) c.in_ok-token.field-0.now c.extension-extension.result c.note.result c.in_ok-token.ensures c.extension-extension.ensures c.note.ensures.range c.note.ensures.rest
