use Rattle.bpf_assembler.proofs.CanonicalListings.{listing_means}
use Rattle.bpf_assembler.proofs.listings.listings_mean_their_instructions.Goals as goal

pub returns : goal.returns
returns c = listing_means c.listings_have_a_line_for_each_instruction.ensures.octets c.canonical_texts_are_read_back.ensures.writes
