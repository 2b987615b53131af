use Rattle.std.proofs.Common.{arith}
use Rattle.std.proofs.lemmas.Grind.{common_steps}
use Rattle.bpf_decode.proofs.encoding.Slots.as_slice.Goals as goal

pub returns : goal.returns
returns c = grind (arith, common_steps)
