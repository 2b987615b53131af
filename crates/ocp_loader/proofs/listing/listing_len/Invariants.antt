use Rattle.std.proofs.Common.{◌≡◌, ◌*◌, ◌≤◌, length}
use Rattle.ocp_loader.specs.Mirror.Listed.{text_below}
use Rattle.ocp_loader.proofs.listing.listing_len.Given as goal

abbrev pub invariant-loop-slot : goal.invariant-loop-slot
invariant-loop-slot g l = (l.len ≡ length (text_below l.program l.slot)) × (l.len ≤ 49 * l.slot)
