use Rattle.std.proofs.Common.{◌≡◌, ◌-◌, ◌*◌, ◌≤◌, ◌++◌, length, take}
use Rattle.ocp_saved.specs.Reading.{words_in}
use Rattle.ocp_saved.proofs.pool.fill_pool.Given as goal

abbrev pub invariant-loop-index : goal.invariant-loop-index
invariant-loop-index g l =
    let n = length l.fn.pool in
    (take l.index l.pool ++ words_in (n - l.index) l.rest ≡ words_in n l.octets)
    × (8 * (n - l.index) ≤ length l.rest) × (length l.pool ≡ n)
