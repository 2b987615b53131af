use Rattle.bpf_assembler.proofs.LabelLemmas.{label_at, meant_by}
use Rattle.bpf_assembler.proofs.laws.named_jumps_lead_to_their_labels.Goals as goal

pub returns-clause-labels : goal.returns-clause-labels
returns-clause-labels c = label_at c.places_are_counted_in_slots.ensures

pub returns-clause-jumps : goal.returns-clause-jumps
returns-clause-jumps c = meant_by c.places_are_counted_in_slots.ensures
