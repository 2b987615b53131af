use Rattle.std.proofs.Common.{◌≡◌, ◌-◌, ◌*◌, ◌≤◌, ◌++◌, length}
use Rattle.byteorder.specs.Endian.{big_number}
use Rattle.ocp_saved.specs.Reading.{items_in}
use Rattle.ocp_saved.proofs.procedure.places_of.Given as goal

abbrev pub invariant-loop : goal.invariant-loop
invariant-loop l =
    (l.places.items ++ items_in (big_number 2) 2 (l.count - l.counter) l.rest ≡ items_in (big_number 2) 2 l.count l.octets)
    × (2 * (l.count - l.counter) ≤ length l.rest) × (length l.places.items ≡ l.counter)
