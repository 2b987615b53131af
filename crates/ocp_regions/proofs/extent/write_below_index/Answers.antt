use Rattle.std.proofs.Common.{◌+◌, subst, sym, arith}
use Rattle.bpf_types.specs.Line.{octets_in}
use Rattle.ocp_regions.specs.Memory.{low_octets, IsZeroFrom}
use Rattle.ocp_regions.proofs.Written.{length_low}
use Rattle.ocp_regions.proofs.Zeros.{written_from, zero_from_too}
use Rattle.ocp_regions.proofs.extent.write_below_index.Goals as goal

pub returns-then-index-end-clause-zeros : goal.returns-then-index-end-clause-zeros
returns-then-index-end-clause-zeros c =
    let end = c.args.at + c.octets.result in
    let os = low_octets (octets_in c.args.size) c.args.number in
    let low = length_low (octets_in c.args.size) c.args.number in
    let count = c.octets.ensures.exact in
    subst (IsZeroFrom end) (sym c.write_at.ensures)
    (written_from end c.args.at c.args.region.now os
    (zero_from_too end c.args.index.now c.args.region.now c.requires.zeros (omega (arith, c.if-index-end.true)) (omega (arith, c.requires.inside, count)))
    (omega (arith, low, count)))
