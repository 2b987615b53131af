use Rattle.std.proofs.Common.{◌≡◌, ◌∙◌, ◌+◌, ◌-◌, ◌*◌, ◌≤◌, ℕ, ap, sym, subst, length, take, drop, replicate, arith}
use Rattle.ocp_regions.specs.Memory.{IsZeroBelow}
use Rattle.ocp_regions.proofs.Zeros.{zero_below_more, length_part}
use Rattle.ocp_regions.proofs.extent.zero_blocks.Goals as goal

pub loop-block-preserved : goal.loop-block-preserved
loop-block-preserved c =
    let n = c.loop-block.block * 512 in
    let region = c.args.region.now in
    let whole = c.loop-block.invariant.0 in
    let inside : n + 512 ≤ length region = omega (arith, c.loop-block-test.true, whole) in
    let count : n + 512 - n ≡ 512 = omega arith in
    let next : n + 512 ≡ (c.loop-block.block + 1) * 512 = omega arith in
    let zero : take 512 (drop n region) ≡ replicate 512 0 =
    ap (λ k. take k (drop n region)) (sym count) ∙ c.is_zero.ensures c.if-not-is_zero.false
    ∙ ap (λ k. replicate {A = ℕ} (length (take k (drop n region))) 0) count ∙ ap (λ k. replicate {A = ℕ} k 0) (length_part n 512 region inside) in
    (whole, subst (λ k. IsZeroBelow k region) next (zero_below_more n 512 region c.loop-block.invariant.1 inside zero))
