use Rattle.std.proofs.Common.{◌≡◌, ◌<◌, ℕ, get_or, eqb, false}
use Rattle.text_lines.proofs.cut.first_line.Given as goal

abbrev pub invariant-loop-i : goal.invariant-loop-i
invariant-loop-i l = (k : ℕ) → k < l.i → eqb (get_or l.text k 0) 10 ≡ false
