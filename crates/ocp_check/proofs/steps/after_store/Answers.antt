use Rattle.std.proofs.Common.{rules, ◌≡◌, true, Ok, to_z, of_z, w16, refl, sym, subst}
use Rattle.bpf_types.specs.Line.{octets_in}
use Rattle.bpf_moves.specs.Moves.{address_in}
use Rattle.ocp_regions.specs.Memory.{memory_after_store}
use Rattle.ocp_check.specs.Mirror.Ranges.{IsIn, IsThere}
use Rattle.ocp_check.proofs.Kept.{store_stands}
use Rattle.ocp_check.proofs.steps.after_store.Goals as goal

pub returns : goal.returns
returns c = λ certificate s t v m k f there is z o.
    let same : to_z w16 (of_z w16 c.args.offset) ≡ c.args.offset = search (rules, c.ranges.offset.sfits) in
    let q = address_in s.registers c.args.base c.args.offset in
    let n : c.octets-octets.result ≡ octets_in c.args.size = search (rules, c) in
    let there' : IsThere true q c.octets-octets.result = subst (λ j. IsThere true q j) (sym n) there in
    let is' : memory_after_store s.memory q c.octets-octets.result v ≡ Ok t = subst (λ j. memory_after_store s.memory q j v ≡ Ok t) (sym n) is in
    let at : IsIn c.address_range-at.result q = subst (λ x. IsIn c.address_range-at.result (address_in s.registers c.args.base x)) same (c.address_range-at.ensures s.registers m.registers) in
    store_stands certificate c.args.node.now _ s t m refl refl refl refl refl
    (c.words_with.ensures m.bases s.memory t q v m.words at k f there' is')
    (λ from h. c.kept_after.ensures from s.memory t q v h at there' is') z o
