use Rattle.std.proofs.Common.{◌≡◌, ℕ, List, true, false, sym, subst, ◌∙◌}
use Rattle.ocp_core.specs.Marks.{MarkedEntry}
use Rattle.ocp_seats.specs.Seats.{SeatContents}
use Rattle.ocp_seats.specs.Closing.{IsWhole, IsReceipted, RefusesClose}
use Rattle.ocp_seats.proofs.Histories.{history_of}
use Rattle.ocp_seats.proofs.book.Book.close.Goals as goal
use Rattle.ocp_seats.proofs.book.Book.close.Goals.{then-not-is_whole, else-not-is_whole+then-not-is_receipted}

-- the same seats, and as many
whole_alike : {a b : List SeatContents} {m n : ℕ} → a ≡ b → m ≡ n → IsWhole a m → IsWhole b n
whole_alike {a} {b} {m} {n} same as_many whole = subst (λ k. IsWhole b k) as_many (subst (λ seats. IsWhole seats m) same whole)

receipted_alike : {d e : List MarkedEntry} {a b : List SeatContents} → d ≡ e → a ≡ b → IsReceipted d a → IsReceipted e b
receipted_alike {d} {e} {a} {b} same alike receipted = subst (λ seats. IsReceipted e seats) alike (subst (λ entries. IsReceipted entries a) same receipted)

differ : false ≡ true → ⊥
differ is = cc

pub is_receipted-requires-clause-whole : goal.is_receipted-requires-clause-whole
is_receipted-requires-clause-whole g c = whole_alike (c.as_slice.ensures.value ∙ sym c.as_slice-else-not-is_whole.ensures.value) (c.seat_count.ensures.value ∙ sym c.seat_count-else-not-is_whole.ensures.value) (c.is_whole.ensures.0 c.if-not-is_whole.false)

pub returns-else-not-is_receipted-clause-whole : goal.returns-else-not-is_receipted-clause-whole
returns-else-not-is_receipted-clause-whole g c = whole_alike c.as_slice.ensures.value c.seat_count.ensures.value (c.is_whole.ensures.0 c.if-not-is_whole.false)

pub returns-else-not-is_receipted-clause-history : goal.returns-else-not-is_receipted-clause-history
returns-else-not-is_receipted-clause-history g c = history_of c.args.self.engine c.args.self.start c.args.seats.items (receipted_alike c.since.ensures c.as_slice-else-not-is_whole.ensures.value (c.is_receipted.ensures.0 c.if-not-is_receipted.false))

pub returns-clause-err : goal.returns-clause-err
returns-clause-err g c = elim c.if-not-is_whole.branch [
  | then-not-is_whole w ↦ subst (RefusesClose _ _ _) (sym w.why-is) (λ whole. differ (sym w.if-not-is_whole.true ∙ c.is_whole.ensures.1 (whole_alike (sym c.as_slice.ensures.value) (sym c.seat_count.ensures.value) whole)))
  | else-not-is_whole+then-not-is_receipted w ↦ subst (RefusesClose _ _ _) (sym w.why-is) (
    whole_alike c.as_slice.ensures.value c.seat_count.ensures.value (c.is_whole.ensures.0 w.if-not-is_whole.false),
    λ receipted. differ (sym w.if-not-is_receipted.true ∙ w.is_receipted.ensures.1 (receipted_alike (sym w.since.ensures) (sym w.as_slice-else-not-is_whole.ensures.value) receipted)),
  )
]
