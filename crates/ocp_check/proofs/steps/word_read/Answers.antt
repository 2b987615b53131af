use Rattle.std.proofs.Common.{rules, ◌≡◌, Ok, to_z, of_z, w16, subst}
use Rattle.bpf_types.specs.Line.{octets_in}
use Rattle.bpf_moves.specs.Moves.{address_in}
use Rattle.ocp_regions.specs.Memory.{number_in_memory}
use Rattle.ocp_check.proofs.Words.{if_word}
use Rattle.ocp_check.proofs.steps.word_read.Goals as goal

pub returns : goal.returns
returns c =
    let eight : octets_in c.args.size ≡ 8 = search (rules, c) in
    let same : to_z w16 (of_z w16 c.args.offset) ≡ c.args.offset = search (rules, c.ranges.offset.sfits) in
    if_word c.word_with_address.result _ _ (λ w h bases registers m v a ws r.
    let at : address_in registers c.args.base c.args.offset ≡ c.in-Some.address = subst (λ z. address_in registers c.args.base z ≡ c.in-Some.address) same (c.in-Some.ensures _ (c.address_range.ensures registers a)) in
    h bases m v (ws.each c.index_of.result c.index_of.ensures)
    (subst (λ n. number_in_memory m c.in-Some.address n ≡ Ok v) eight (subst (λ q. number_in_memory m q (octets_in c.args.size) ≡ Ok v) at r))) c.word_with_address.ensures
