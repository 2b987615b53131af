use Rattle.bpf_decode.proofs.Images.{image_slots}
use Rattle.bpf_decode.proofs.laws.images_are_whole_slots.Goals as goal

pub returns : goal.returns
returns c = image_slots
