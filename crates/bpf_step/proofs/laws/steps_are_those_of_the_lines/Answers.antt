use Rattle.bpf_step.proofs.Found.{step_of_line}
use Rattle.bpf_step.proofs.laws.steps_are_those_of_the_lines.Goals as goal

pub returns : goal.returns
returns c = step_of_line c.lines_stand_at_their_places.ensures
