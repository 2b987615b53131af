use Rattle.std.proofs.Common.{◌≡◌, ◌-◌, ◌*◌, ◌≤◌, ◌++◌, length}
use Rattle.ocp_saved.specs.Reading.{items_in, frame_in}
use Rattle.ocp_saved.proofs.machine.frames_of.Given as goal

abbrev pub invariant-loop : goal.invariant-loop
invariant-loop l =
    (l.frames.items ++ items_in frame_in 42 (l.count - l.counter) l.rest ≡ items_in frame_in 42 l.count l.octets)
    × (42 * (l.count - l.counter) ≤ length l.rest) × (length l.frames.items ≡ l.counter)
