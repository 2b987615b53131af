use Rattle.std.proofs.Common.{◌≡◌, ◌-◌, ◌+◌, ◌*◌, suc, drop, get_or, Some, None, sym, ap, ◌∙◌, arith}
use Rattle.std.proofs.lemmas.List.{take_rest}
use Rattle.byteorder.specs.Endian.{big_number}
use Rattle.obcp_messages.specs.Mirror.ReadingReports.{rows_in, status_at}
use Rattle.obcp_messages.proofs.RowOctets.{rows_more, rows_end}
use Rattle.obcp_messages.proofs.reading_reports.rows.Goals as goal

pub returns-in_err-status : goal.returns-in_err-status
returns-in_err-status c =
    let left : c.args.count - c.loop-i.i ≡ suc (c.args.count - (c.loop-i.i + 1)) = omega arith in
    let none : status_at (get_or (drop (3 * c.loop-i.i) c.args.octets.now) 2 0) ≡ None = sym (c.in_err-status.ensures ∙ ap (λ o. status_at (get_or o 2 0)) (take_rest c.args.octets.now (3 * c.loop-i.i))) in
    rw c.from_residual.ensures (sym (rows_end c.loop-i.rows.items c.args.octets.now c.loop-i.i (c.args.count - c.loop-i.i) (c.args.count - (c.loop-i.i + 1)) (rows_in c.args.count c.args.octets.now) left none c.loop-i.invariant.whatever_follows))

pub loop-i-preserved : goal.loop-i-preserved
loop-i-preserved c =
    let left : c.args.count - c.loop-i.i ≡ suc (c.args.count - (c.loop-i.i + 1)) = omega arith in
    let some : status_at (get_or (drop (3 * c.loop-i.i) c.args.octets.now) 2 0) ≡ Some c.in_ok-status.status = sym (c.in_ok-status.ensures ∙ ap (λ o. status_at (get_or o 2 0)) (take_rest c.args.octets.now (3 * c.loop-i.i))) in
    let id : c.read_u16-id.result ≡ big_number 2 (drop (3 * c.loop-i.i) c.args.octets.now) = c.read_u16-id.ensures ∙ ap (big_number 2) (take_rest c.args.octets.now (3 * c.loop-i.i)) in
    let more = rows_more c.loop-i.rows.items c.args.octets.now c.loop-i.i (c.args.count - c.loop-i.i) (c.args.count - (c.loop-i.i + 1)) c.read_u16-id.result c.in_ok-status.status (rows_in c.args.count c.args.octets.now) left id some c.loop-i.invariant.whatever_follows in
    record {
      so_far = omega arith;
      whatever_follows = rw c.push.ensures.items more;
    }
