use Rattle.std.proofs.Common.{◌≡◌, length, ap, sym, ◌∙◌, arith}
use Rattle.ocp_core.specs.Log.{Log}
use Rattle.ocp_seats.proofs.Going.{goes_on_start}
use Rattle.ocp_seats.proofs.book.Book.new.Goals as goal

pub invariant_of-result : goal.invariant_of-result
invariant_of-result g c =
    let start : c.len-start.result ≡ length c.args.engine.entries = c.len-start.ensures.value ∙ ap (λ (l : Log). length l.entries) c.journal.ensures in
    (omega (arith, start, c.open-tally.ensures.total), omega (arith, start, c.requires.room), omega (arith, c.open-tally.ensures.parts, c.requires.parts, c.requires.seats), c.open-tally.ensures.amount, omega arith, start ∙ ap (λ (l : Log). length l.entries) (sym c.requires.log), goes_on_start _ _ c.requires.log)
