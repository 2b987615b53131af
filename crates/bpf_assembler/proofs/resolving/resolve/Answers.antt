use Rattle.std.proofs.Common.{◌≡◌, ◌+◌, Some, None, pos, ◌-ℤ◌, ◌+ℤ◌, to_z, of_z, sym, ap, ◌∙◌, arith}
use Rattle.std.specs.Int.{w128}
use Rattle.std.proofs.lemmas.Int.{ints}
use Rattle.bpf_text.specs.Judged.{text_of}
use Rattle.bpf_assembler.specs.Text.{label_place}
use Rattle.bpf_assembler.proofs.SecondPass.{named_row, unnamed_row}
use Rattle.bpf_assembler.proofs.resolving.resolve.Goals as goal

pub returns-in_default-place_at : goal.returns-in_default-place_at
returns-in_default-place_at g c = λ ws are.
    let name = c.in-Some.name.now in
    let none : label_place name 0 ws ≡ None = sym (are name) ∙ sym c.place_at.ensures ∙ c.in_default-place_at.is in
    unnamed_row ws c.args.row.now name c.at.result (ap text_of c.in-Some.is) none c.at.ensures

pub returns : goal.returns
returns g c = λ ws are.
    let name = c.in-Some.name.now in
    let to = c.in-Some-place_at.to in
    let place : label_place name 0 ws ≡ Some to = sym (are name) ∙ sym c.place_at.ensures ∙ c.in-Some-place_at.is in
    let distance : to_z w128 (of_z w128 (to_z w128 (of_z w128 c.from.result) -ℤ to_z w128 (of_z w128 (to_z w128 (of_z w128 c.from-2.result) +ℤ pos 1)))) ≡ pos to -ℤ pos (c.args.row.now.place + 1) =
    omega (arith, ints, c.from.ensures, c.from-2.ensures) in
    rw c.ok_or.ensures.value (named_row ws c.args.row.now name to _ c.with_distance.result c.at-2.result (ap text_of c.in-Some.is) place distance c.with_distance.ensures c.at-2.ensures)
