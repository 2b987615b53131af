use Rattle.std.proofs.Common.{ℕ, ◌+◌, ◌<◌, map, get_or}
use Rattle.obcp_messages.proofs.rows.is_rising.Given as goal

abbrev pub invariant-loop-i : goal.invariant-loop-i
invariant-loop-i l = (k : ℕ) → k + 1 < l.i → get_or (map (λ row. row.id) l.rows) k 0 < get_or (map (λ row. row.id) l.rows) (k + 1) 0
