use Rattle.bpf_canonical.proofs.Texts.{canonical_is_text, newlines_of_listing}
use Rattle.bpf_canonical.proofs.laws.listings_have_a_line_for_each_instruction.Goals as goal

pub returns-clause-octets : goal.returns-clause-octets
returns-clause-octets c = canonical_is_text

pub returns-clause-newlines : goal.returns-clause-newlines
returns-clause-newlines c = newlines_of_listing
