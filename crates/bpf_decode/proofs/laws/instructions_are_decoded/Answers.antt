use Rattle.bpf_decode.proofs.Decoded.{decoded_of}
use Rattle.bpf_decode.proofs.laws.instructions_are_decoded.Goals as goal

pub returns : goal.returns
returns c = decoded_of
