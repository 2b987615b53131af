use Rattle.std.proofs.Common.{◌≡◌, ◌-◌, ◌*◌, ◌≤◌, ◌++◌, length}
use Rattle.byteorder.specs.Endian.{big_number}
use Rattle.ocp_saved.specs.Reading.{items_in}
use Rattle.ocp_saved.proofs.procedure.words_of.Given as goal

abbrev pub invariant-loop : goal.invariant-loop
invariant-loop l =
    (l.words.items ++ items_in (big_number 8) 8 (l.count - l.counter) l.rest ≡ items_in (big_number 8) 8 l.count l.octets)
    × (8 * (l.count - l.counter) ≤ length l.rest) × (length l.words.items ≡ l.counter)
