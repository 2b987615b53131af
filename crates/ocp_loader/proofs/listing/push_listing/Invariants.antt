use Rattle.std.proofs.Common.{◌≡◌, ◌≤◌, ◌++◌, vec_capacity}
use Rattle.ocp_loader.specs.Mirror.Listed.{text_below}
use Rattle.ocp_loader.proofs.listing.push_listing.Given as goal

abbrev pub invariant-loop-slot : goal.invariant-loop-slot
invariant-loop-slot g l = (l.out.items ≡ l.initial.out.items ++ text_below l.program l.slot) × (vec_capacity l.initial.out ≤ vec_capacity l.out)
