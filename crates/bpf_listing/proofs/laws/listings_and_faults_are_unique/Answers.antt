use Rattle.bpf_listing.proofs.Written.{one_listing, not_both}
use Rattle.bpf_listing.proofs.laws.listings_and_faults_are_unique.Goals as goal

pub returns-clause-listing : goal.returns-clause-listing
returns-clause-listing c = one_listing c.images_are_unique.ensures

pub returns-clause-slots : goal.returns-clause-slots
returns-clause-slots c = λ image a h. c.images_are_whole_slots.ensures image h.lines h.whole

pub returns-clause-sound : goal.returns-clause-sound
returns-clause-sound c = not_both c.faults_of_images_are_unique.ensures.none

pub returns-clause-fault : goal.returns-clause-fault
returns-clause-fault c = c.faults_of_images_are_unique.ensures.one
