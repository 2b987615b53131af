use Rattle.std.proofs.Common.{◌≡◌, ◌-◌, ◌+◌, suc, arith, ap, ◌∙◌, ◌*◌, drop}
use Rattle.std.proofs.lemmas.List.{take_rest}
use Rattle.byteorder.specs.Endian.{big_number}
use Rattle.obcp_messages.specs.Fields.{numbers}
use Rattle.obcp_messages.proofs.Numbers.{numbers_more}
use Rattle.obcp_messages.proofs.reading_requests.words_in.Goals as goal

pub loop-i-preserved : goal.loop-i-preserved
loop-i-preserved c =
    let left : c.args.count - c.loop-i.i ≡ suc (c.args.count - (c.loop-i.i + 1)) = omega arith in
    let more = numbers_more c.loop-i.words.items c.args.octets.now c.loop-i.i (c.args.count - c.loop-i.i) (c.args.count - (c.loop-i.i + 1)) (numbers 8 c.args.count c.args.octets.now) left c.loop-i.invariant.whatever_follows in
    let number : c.read_u64.result ≡ big_number 8 (drop (8 * c.loop-i.i) c.args.octets.now) = c.read_u64.ensures ∙ ap (big_number 8) (take_rest c.args.octets.now (8 * c.loop-i.i)) in
    record {
      so_far = omega arith;
      whatever_follows = rw (c.push.ensures.items, number) more;
    }
