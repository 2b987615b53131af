use Rattle.bpf_text.proofs.CanonicalLines.{canonical_written}
use Rattle.bpf_text.proofs.CanonicalReadings.{reads_canonical}
use Rattle.bpf_text.proofs.laws.canonical_texts_are_read_back.Goals as goal

pub returns-clause-writes : goal.returns-clause-writes
returns-clause-writes c = canonical_written

pub returns-clause-reads : goal.returns-clause-reads
returns-clause-reads c = λ l r h k. reads_canonical c.readings_are_unique.ensures l h r k
