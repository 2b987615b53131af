use Rattle.bpf_decode.proofs.Images.{one_image}
use Rattle.bpf_decode.proofs.laws.images_are_unique.Goals as goal

pub returns : goal.returns
returns c = one_image
