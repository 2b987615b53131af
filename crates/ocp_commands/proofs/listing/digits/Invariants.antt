use Rattle.std.proofs.Common.{◌≡◌, length}
use Rattle.ocp_commands.specs.Listings.{digits_of}
use Rattle.ocp_commands.proofs.listing.digits.Given as goal

abbrev pub invariant-loop-digits : goal.invariant-loop-digits
invariant-loop-digits l = digits_of l.digits ≡ digits_of l.text

abbrev pub decreases-loop-digits : goal.decreases-loop-digits
decreases-loop-digits l = length l.digits
