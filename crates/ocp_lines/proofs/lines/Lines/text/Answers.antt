use Rattle.std.proofs.Common.{◌≡◌, ◌∙◌, sym, ap, Bool, arith}
use Rattle.std.proofs.lemmas.Grind.{common_steps}
use Rattle.std.specs.Str.Lines.{strip_carriage_return}
use Rattle.ocp_lines.specs.Lines.{octets_of_line, text_at}
use Rattle.ocp_lines.proofs.lines.Lines.text.Goals as goal
use Rattle.ocp_lines.proofs.lines.Lines.text.Goals.{then-is_empty, else-is_empty}

pub returns : goal.returns
returns g c =
    let s = c.args.self.now in
    let same : c.if-is_empty.octets.now ≡ octets_of_line s = elim c.if-is_empty.branch [
      | then-is_empty w ↦ let empty = w.if-is_empty.true in let is = c.is_empty.ensures in rw w.octets-is (grind (arith, common_steps, empty, is))
      | else-is_empty w ↦ let some = w.if-is_empty.false in let is = c.is_empty.ensures in rw w.octets-is (grind (arith, common_steps, some, is))
    ] in
    c.without_carriage_return.ensures ∙ ap strip_carriage_return same ∙ ap (λ (b : Bool). text_at b (octets_of_line s)) (sym c.if-self.false)
