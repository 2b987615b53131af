use Rattle.bpf_assembler.proofs.CanonicalListings.{listing_means_image, listing_means_no_other, admitted_as}
use Rattle.bpf_assembler.proofs.listings.admitted_images_are_meant_by_their_listings.Goals as goal

pub returns-clause-means : goal.returns-clause-means
returns-clause-means c = λ profile. listing_means_image profile c.listings_have_a_line_for_each_instruction.ensures.octets c.canonical_texts_are_read_back.ensures.writes

pub returns-clause-only : goal.returns-clause-only
returns-clause-only c = λ profile. listing_means_no_other profile c.listings_have_a_line_for_each_instruction.ensures.octets c.canonical_texts_are_read_back.ensures.writes c.meanings_are_unique.ensures

pub returns-clause-listed : goal.returns-clause-listed
returns-clause-listed c = λ profile. admitted_as profile c.images_are_unique.ensures
