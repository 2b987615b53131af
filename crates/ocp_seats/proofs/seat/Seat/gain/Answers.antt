use Rattle.std.proofs.Common.{◌+◌, [], ◌∷◌, ◌++◌, length, map, ap, ◌∙◌, arith}
use Rattle.std.proofs.lemmas.List.{map-append}
use Rattle.ocp_core.specs.Log.{Log}
use Rattle.ocp_core.specs.Journal.{entry_with_mark}
use Rattle.ocp_seats.specs.Seats.{SeatContents}
use Rattle.ocp_seats.proofs.seat.Seat.gain.Goals as goal

pub push_reserved-requires : goal.push_reserved-requires
push_reserved-requires g c =
    let (_, amount, room) = c.self.invariant in
    omega (arith, amount, room, c.requires, ap (λ (l : Log). length l.entries) c.journal.ensures, ap (λ (l : Log). l.capacity) c.journal.ensures)

pub invariant_of-self : goal.invariant_of-self
invariant_of-self g c =
    let (parts, amount, room) = c.self.invariant in
    (c.audit.ensures.parts ∙ (c.add.ensures.parts ∙ parts), omega (arith, amount), omega (arith, room))

pub returns-clause-seat : goal.returns-clause-seat
returns-clause-seat g c = record {
  number = ap (λ (s : SeatContents). s.number) c.self.view_is;
  receipts = ap (map entry_with_mark) c.push_reserved.ensures.items ∙ (map-append entry_with_mark c.self.inside.receipts.items (c.args.entry ∷ []) ∙ ap (λ (s : SeatContents). s.receipts ++ entry_with_mark c.args.entry ∷ []) c.self.view_is);
  share = c.audit.ensures.amount ∙ (c.add.ensures.amount ∙ ap (λ (s : SeatContents). s.share + 1) c.self.view_is);
}
