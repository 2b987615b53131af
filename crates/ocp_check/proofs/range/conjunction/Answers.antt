use Rattle.std.proofs.Common.{bit_and, arith}
use Rattle.std.proofs.lemmas.Nat.{and_le_l, and_le_r}
use Rattle.ocp_check.proofs.Counted.{if_number}
use Rattle.ocp_check.proofs.range.conjunction.Goals as goal

pub returns : goal.returns
returns c = λ x y i j.
    c.up_to.ensures x (bit_and x y) i (and_le_l x y)
    (if_number c.greatest.result _ _ (λ n h. omega (arith, and_le_r x y, h y j)) c.greatest.ensures)
