use Rattle.std.proofs.Common.{rules, ◌≡◌, ◌<◌, length, Ok, None, to_z, of_z, w16, sym, subst}
use Rattle.bpf_types.specs.Line.{octets_in}
use Rattle.bpf_moves.specs.Moves.{address_in}
use Rattle.ocp_regions.specs.Memory.{number_in_memory}
use Rattle.ocp_check.proofs.Kept.{put_next}
use Rattle.ocp_check.proofs.steps.after_load.Goals as goal

pub returns-in-Some : goal.returns-in-Some
returns-in-Some c = λ certificate s v i is lt.
    let l : length c.args.node.now.row ≡ 11 = search (rules, c) in
    let n : length c.args.node.now.forms ≡ 11 = search (rules, c) in
    let d : c.args.dst < 11 = search (rules, c) in
    let same : to_z w16 (of_z w16 c.args.offset) ≡ c.args.offset = search (rules, c.ranges.offset.sfits) in
    let both = c.in-Some.ensures i.bases s.registers s.memory v i.registers i.words (subst (λ x. number_in_memory s.memory (address_in s.registers c.args.base x) (octets_in c.args.size) ≡ Ok v) (sym same) is) in
    put_next certificate c.args.node.now c.with_register.result s c.args.dst v 1 c.in-Some.word.known c.in-Some.word.form c.with_register.ensures l n d i both.0 both.1

pub returns-in-None : goal.returns-in-None
returns-in-None c = λ certificate s v i is lt.
    let l : length c.args.node.now.row ≡ 11 = search (rules, c) in
    let n : length c.args.node.now.forms ≡ 11 = search (rules, c) in
    let d : c.args.dst < 11 = search (rules, c) in
    put_next certificate c.args.node.now c.with_register-in-None.result s c.args.dst v 1 c.numbers_of.result None c.with_register-in-None.ensures l n d i (c.numbers_of.ensures v lt) tt
