use Rattle.bpf_decode.proofs.Decoded.{refused_of}
use Rattle.bpf_decode.proofs.laws.writes_of_the_frame_pointer_are_refused.Goals as goal

pub returns : goal.returns
returns c = refused_of
