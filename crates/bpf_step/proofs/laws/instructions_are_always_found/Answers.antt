use Rattle.bpf_step.proofs.Found.{always_found}
use Rattle.bpf_step.proofs.laws.instructions_are_always_found.Goals as goal

pub returns : goal.returns
returns c = always_found c.images_begin_with_an_instruction.ensures c.faults_are_of_images_that_may_not_be_run.ensures.admitted c.places_lead_to_places.ensures.slots
