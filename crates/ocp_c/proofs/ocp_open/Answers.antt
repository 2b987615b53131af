use Rattle.std.proofs.Common.{sym, ap, ◌∙◌}
use Rattle.ocp_c.specs.Statuses.{number_of}
use Rattle.ocp_c.proofs.Held.{no_err, same_err, is_open, no_memory}
use Rattle.ocp_c.proofs.ocp_open.Goals as goal

pub returns-in-Ok-clause-refused : goal.returns-in-Ok-clause-refused
returns-in-Ok-clause-refused c why closed refused = absurd (no_err (c.in-Ok.ensures.refused why refused))

pub returns-in-Ok-clause-opened : goal.returns-in-Ok-clause-opened
returns-in-Ok-clause-opened c log closed made = is_open c.put-in-Ok.ensures c.number-in-Ok.ensures (c.in-Ok.ensures.made log made)

pub returns-in-Err-clause-refused : goal.returns-in-Err-clause-refused
returns-in-Err-clause-refused c why closed refused = (c.number-in-Err.ensures ∙ ap number_of (same_err (c.in-Err.ensures.refused why refused)), c.take.ensures.left)

pub returns-in-Err-clause-opened : goal.returns-in-Err-clause-opened
returns-in-Err-clause-opened c log closed made = no_memory log c.take.ensures.left c.number-in-Err.ensures (c.in-Err.ensures.made log made)

pub returns-in-Some-clause-already : goal.returns-in-Some-clause-already
returns-in-Some-clause-already c log held = (c.number.ensures, c.put.ensures ∙ (sym c.in-Some.ensures.taken ∙ held))
