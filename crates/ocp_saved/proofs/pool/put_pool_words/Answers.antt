use Rattle.std.proofs.Common.{◌+◌, ◌*◌, length, ap, ◌∙◌, arith}
use Rattle.byteorder.specs.Endian.{big_bytes}
use Rattle.ocp_saved.proofs.Items.{items_written}
use Rattle.ocp_saved.proofs.pool.put_pool_words.Goals as goal

pub loop-index-preserved : goal.loop-index-preserved
loop-index-preserved g c =
    let i = c.loop-index.index in
    let len = c.loop-index.auto.out in
    items_written (big_bytes 8) 8 c.args.pool.now c.loop-index.out c.put_u64.new.out 0 i (8 * i) _ (8 * (i + 1)) (omega (arith, c.loop-index-test.true, c.words-index-end.ensures.value)) (omega arith)
    (omega (arith, c.loop-index-test.true, c.words-index-end.ensures.value, c.requires)) (ap length c.put_u64.ensures) (c.put_u64.ensures ∙ ap (big_bytes 8) c.word.ensures) c.loop-index.invariant
