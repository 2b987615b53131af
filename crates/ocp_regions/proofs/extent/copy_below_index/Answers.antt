use Rattle.std.proofs.Common.{◌-◌, refl}
use Rattle.ocp_regions.proofs.Zeros.{copied_below}
use Rattle.ocp_regions.proofs.extent.copy_below_index.Goals as goal

pub returns : goal.returns
returns c =
    copied_below c.args.index c.args.end c.max.result (c.max.result - c.args.end) c.args.region.now c.args.other.now c.zero.new.octets c.copy_from_slice.new.self
    c.requires.own c.requires.others c.requires.length c.max.ensures refl c.zero.ensures c.copy_from_slice.ensures.after
