use Rattle.std.proofs.Common.{arith, sym, ◌∙◌}
use Rattle.std.proofs.lemmas.Grind.{common_steps}
use Rattle.text_lines.proofs.Digits.{no_octets}
use Rattle.text_lines.proofs.pairs.octets_of.Goals.{then-digits-ne0-via-then-digits-ne0, then-digits-ne0-via-else-digits-ne0+then-not-are_digits}
use Rattle.text_lines.proofs.pairs.octets_of.Goals as goal

pub returns-then-digits-ne0 : goal.returns-then-digits-ne0
returns-then-digits-ne0 g c = record {
  octets = no_octets c.args.digits.now (λ even digits. elim c.then-digits-ne0.branch [
    | then-digits-ne0-via-then-digits-ne0 w ↦ absurd (omega (arith, even, w.if-digits-ne0.true))
    | then-digits-ne0-via-else-digits-ne0+then-not-are_digits w ↦ absurd (cc (sym digits ∙ sym w.are_digits.ensures ∙ w.if-not-are_digits.true))
  ]);
  memory = tt;
}

pub returns : goal.returns
returns g c = grind (arith, common_steps)
