use Rattle.bpf_listing.proofs.Total.{listing_or_fault}
use Rattle.bpf_listing.proofs.laws.images_have_a_listing_or_a_fault.Goals as goal

pub returns : goal.returns
returns c = listing_or_fault c.octets_are_decoded_one_way.ensures.some
