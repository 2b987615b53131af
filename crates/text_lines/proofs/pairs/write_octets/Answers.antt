use Rattle.std.proofs.Common.{◌+◌, ◌*◌, slice_index, arith, length-set, ◌∙◌}
use Rattle.hex.proofs.Pairs.{decode_step, decode_done}
use Rattle.hex.proofs.HexLemmas.{decode_of-even}
use Rattle.text_lines.proofs.Digits.{pair_of}
use Rattle.text_lines.proofs.pairs.write_octets.Goals as goal

pub loop-i-preserved : goal.loop-i-preserved
loop-i-preserved c =
    let h = c.loop-i.invariant in
    let within = c.loop-i-test.true in
    let same = h.same in
    let pair = pair_of (slice_index c.args.digits.now (2 * c.loop-i.i)) (slice_index c.args.digits.now (2 * c.loop-i.i + 1)) (2 * c.loop-i.i) c.worth.result c.worth-in-loop-i.result c.worth.ensures c.worth-in-loop-i.ensures in
    record {
      so_far = decode_step c.args.digits.now c.loop-i.octets c.loop-i.i (c.worth.result * 16 + c.worth-in-loop-i.result) (omega (arith, within, same)) (omega (arith, within)) pair h.so_far;
      same = omega (arith, same, length-set c.loop-i.octets c.loop-i.i (c.worth.result * 16 + c.worth-in-loop-i.result));
    }

pub returns : goal.returns
returns c =
    let h = c.loop-i.invariant in
    decode_of-even c.args.digits.now (omega (arith, h.same))
    ∙ decode_done c.args.digits.now c.loop-i.octets c.loop-i.i (omega arith) (omega (arith, h.same)) h.so_far
