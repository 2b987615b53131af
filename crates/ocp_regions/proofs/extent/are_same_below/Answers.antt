use Rattle.std.proofs.Common.{ap, take, arith}
use Rattle.ocp_regions.proofs.Zeros.{same_below, zero_from_too}
use Rattle.ocp_regions.proofs.extent.are_same_below.Goals as goal

pub returns : goal.returns
returns c =
    let m = c.max-end.result in
    let left = c.args.left.now in
    let right = c.args.right.now in
    let long = c.if-left-right.false in (
      λ h. same_below m left right
          (zero_from_too m c.args.left_index left c.requires.left (omega (arith, c.max-end.ensures)) (omega (arith, c.max-end.ensures, c.requires.left.0, c.requires.right.0, long)))
          (zero_from_too m c.args.right_index right c.requires.right (omega (arith, c.max-end.ensures)) (omega (arith, c.max-end.ensures, c.requires.left.0, c.requires.right.0, long)))
          long (c.are_same.ensures.0 h),
      λ e. c.are_same.ensures.1 (ap (take m) e),
    )
