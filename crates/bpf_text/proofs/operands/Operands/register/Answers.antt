use Rattle.bpf_text.specs.Mirror.Reads.{state}
use Rattle.bpf_text.proofs.ReadLemmas.{register_read}
use Rattle.bpf_text.proofs.operands.Operands.register.Goals as goal

pub returns : goal.returns
returns c = register_read (state c.args.self.now) (state c.token.new.self) c.in_ok-token.field-0.now c.register.result c.in_ok-token.ensures c.register.ensures.some c.register.ensures.none
