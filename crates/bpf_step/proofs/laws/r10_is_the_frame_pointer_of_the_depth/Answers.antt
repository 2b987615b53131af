use Rattle.bpf_step.proofs.Framed.{framed}
use Rattle.bpf_step.proofs.laws.r10_is_the_frame_pointer_of_the_depth.Goals as goal

pub returns : goal.returns
returns c = framed c.lines_stand_at_their_places.ensures
