use Rattle.std.proofs.Common.{◌≡◌, ◌-◌, [], length}
use Rattle.ocp_saved.specs.Reading.{more_dues_at, more_times}
use Rattle.ocp_saved.proofs.completions.dues_at.Given as goal

abbrev pub invariant-loop : goal.invariant-loop
invariant-loop l =
    (more_times more_dues_at (l.count - l.counter) l.dues.items l.rest ≡ more_times more_dues_at l.count [] l.octets)
    × (length l.dues.items ≡ l.counter)
