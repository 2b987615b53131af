use Rattle.std.proofs.Common.{List, ℕ, subst, sym}
use Rattle.bpf_assembler.specs.Text.{Means}
use Rattle.bpf_assembler.proofs.Only.{lines_meant, only_image, only_fault}
use Rattle.bpf_assembler.proofs.assembling.assemble.Goals as goal

pub returns-clause-lines : goal.returns-clause-lines
returns-clause-lines g c = lines_meant c.args.profile c.meanings_are_unique.ensures c.args.text.now c.image_of.result c.image_of.ensures.means

pub returns-clause-only : goal.returns-clause-only
returns-clause-only g c = only_image c.args.profile c.meanings_are_unique.ensures (c.meanings_exclude_faults.ensures.admitted c.args.profile) c.args.text.now c.image_of.result c.image_of.ensures.means c.image_of.ensures.fault

pub returns-clause-only_fault : goal.returns-clause-only_fault
returns-clause-only_fault g c = only_fault c.args.profile (c.faults_are_unique.ensures c.args.profile) (c.meanings_exclude_faults.ensures.admitted c.args.profile) c.args.text.now c.image_of.result c.image_of.ensures.means c.image_of.ensures.fault

pub returns-clause-listed : goal.returns-clause-listed
returns-clause-listed g c = λ image lines h e.
    let means = subst (λ (t : List ℕ). Means t lines) (sym e) (c.admitted_images_are_meant_by_their_listings.ensures.means c.args.profile image lines h) in
    only_image c.args.profile c.meanings_are_unique.ensures (c.meanings_exclude_faults.ensures.admitted c.args.profile) c.args.text.now c.image_of.result c.image_of.ensures.means c.image_of.ensures.fault image (record { lines = lines; means = means; admitted = h })
