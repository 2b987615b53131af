use Rattle.std.proofs.Common.{◌-◌, refl}
use Rattle.ocp_regions.proofs.Zeros.{copied_from}
use Rattle.ocp_regions.proofs.extent.copy_from_index.Goals as goal

pub returns : goal.returns
returns c =
    copied_from c.args.index c.args.first c.min.result (c.args.first - c.min.result) c.args.region.now c.args.other.now c.zero.new.octets c.copy_from_slice.new.self
    c.requires.own c.requires.others c.requires.length c.min.ensures refl c.zero.ensures c.copy_from_slice.ensures.after
