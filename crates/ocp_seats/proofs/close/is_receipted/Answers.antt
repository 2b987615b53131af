use Rattle.std.proofs.Common.{◌≡◌, ◌≢◌, ◌<◌, ℕ, length, map, get_or, All, Some, below_more, slice_get, arith, rules, sym, ◌∙◌, refl, subst, ap}
use Rattle.std.specs.Prelude.{IsTrue, slice_index_or}
use Rattle.std.proofs.lemmas.List.{get_or_default, length-map}
use Rattle.ocp_core.specs.Marks.{by_of}
use Rattle.ocp_core.specs.Journal.{entry_with_mark}
use Rattle.ocp_seats.specs.Seats.{SeatContents}
use Rattle.ocp_seats.proofs.Walks.{Walked, by_none, receipt_is, walk_past, walked_all, place_is_end, number_below, found_below}
use Rattle.ocp_seats.proofs.close.is_receipted.Goals as goal

pub returns-in_default : goal.returns-in_default
returns-in_default g c =
    let e = c.entry-item.result in
    let none : All (λ (s : SeatContents). s.number ≢ by_of (entry_with_mark e).entry) c.args.seats.now = subst (λ (v : ℕ). All (λ (s : SeatContents). s.number ≢ v) c.args.seats.now) c.by.ensures (c.in_default.ensures {u = tt}) in
    (λ t. cc, λ good. absurd (by_none entry_with_mark c.args.entries.now c.loop-entry.entry-index c.args.seats.now e c.loop-entry-test.true c.entry-item.is none good))

pub returns-then-not-has_at : goal.returns-then-not-has_at
returns-then-not-has_at g c =
    let e = c.entry-item.result in
    let s = c.in-Some.seat.now in
    let number : c.from-number.result ≡ by_of (entry_with_mark e).entry = search rules in
    let found : (s.number ≡ c.by.result) × ((i : ℕ) × (i < length c.args.seats.now) × (s ≡ slice_index_or c.args.seats.now i s)) = c.in-Some.ensures {u = tt} in (
      λ t. cc,
      λ good.
          let same : slice_get s.receipts (get_or c.loop-entry.places (by_of (entry_with_mark e).entry) 0) ≡ Some (entry_with_mark e) = receipt_is entry_with_mark c.args.entries.now c.loop-entry.entry-index c.loop-entry.places c.args.seats.now c.loop-entry.invariant e c.loop-entry-test.true c.entry-item.is found.1.0 s found.1.1 found.1.2 (found.0 ∙ c.by.ensures) good in
          let there : IsTrue c.has_at.result = c.has_at.ensures.same.1 (subst (λ (v : ℕ). slice_get s.receipts (get_or c.loop-entry.places v 0) ≡ Some (entry_with_mark e)) (sym number) same) in
          cc,
    )

pub loop-entry-preserved : goal.loop-entry-preserved
loop-entry-preserved g c =
    let e = c.entry-item.result in
    let s = c.in-Some.seat.now in
    let number : c.from-number.result ≡ by_of (entry_with_mark e).entry = search rules in
    let found : (s.number ≡ c.by.result) × ((i : ℕ) × (i < length c.args.seats.now) × (s ≡ slice_index_or c.args.seats.now i s)) = c.in-Some.ensures {u = tt} in
    let same : slice_get s.receipts (get_or c.loop-entry.places (by_of (entry_with_mark e).entry) 0) ≡ Some (entry_with_mark e) = subst (λ (v : ℕ). slice_get s.receipts (get_or c.loop-entry.places v 0) ≡ Some (entry_with_mark e)) number (c.has_at.ensures.same.0 c.if-not-has_at.false) in
    rw number (walk_past entry_with_mark c.args.entries.now c.loop-entry.entry-index c.loop-entry.places c.args.seats.now c.args.handed_out c.requires.whole c.requires.most c.loop-entry.invariant e c.loop-entry-test.true c.entry-item.is found.1.0 s found.1.1 found.1.2 (found.0 ∙ c.by.ensures) same)

pub loop-seat-init : goal.loop-seat-init
loop-seat-init g c =
    let at_end : c.loop-entry.entry-index ≡ length (map entry_with_mark c.args.entries.now) = rw (length-map c.args.entries.now entry_with_mark) (omega arith) in
    (subst (λ (j : ℕ). Walked (map entry_with_mark c.args.entries.now) j c.loop-entry.places c.args.seats.now) at_end c.loop-entry.invariant, λ k d lt. absurd (omega arith))

pub returns-then-places-from : goal.returns-then-places-from
returns-then-places-from g c =
    let s = c.seat-item.result in
    let number : c.from.result ≡ s.number = search rules in (
      λ t. cc,
      λ good.
          let ends : get_or c.loop-entry.places s.number 0 ≡ length s.receipts = place_is_end (map entry_with_mark c.args.entries.now) c.loop-entry.places c.args.seats.now c.loop-seat.invariant.0 c.loop-seat.seat-index s c.loop-seat-test.true c.seat-item.is good in
          absurd (c.if-places-from.true (ap (λ (v : ℕ). get_or c.loop-entry.places v 0) number ∙ (ends ∙ sym c.receipts.ensures.length))),
    )

pub loop-seat-preserved : goal.loop-seat-preserved
loop-seat-preserved g c =
    let s = c.seat-item.result in
    let index = c.loop-seat.seat-index in
    let number : c.from.result ≡ s.number = search rules in
    let IsAtEnd : SeatContents → Type 0 = λ x. get_or c.loop-entry.places x.number 0 ≡ length x.receipts in
    let here : IsAtEnd s = ap (λ (v : ℕ). get_or c.loop-entry.places v 0) (sym number) ∙ (c.if-places-from.false ∙ c.receipts.ensures.length) in
    let P : ℕ → Type 0 = λ k. (d : SeatContents) → IsAtEnd (get_or c.args.seats.now k d) in
    let there : P index = λ d. subst IsAtEnd (c.seat-item.is ∙ get_or_default c.args.seats.now index s d c.loop-seat-test.true) here in
    (c.loop-seat.invariant.0, λ k d lt. below_more P index (λ j less d'. c.loop-seat.invariant.1 j d' less) there k lt d)

pub returns : goal.returns
returns g c = (
  λ t. walked_all (map entry_with_mark c.args.entries.now) c.loop-entry.places c.args.seats.now c.loop-seat.invariant.0 (λ k d lt. c.loop-seat.invariant.1 k d (omega arith)),
  λ good. refl,
)

pub bounds-places-number : goal.bounds-places-number
bounds-places-number g c = omega (arith, found_below c.args.seats.now c.args.handed_out c.requires.whole c.requires.most c.by.result c.in-Some.seat.now (c.in-Some.ensures {u = tt}))

pub bounds-places-number-in-loop-entry : goal.bounds-places-number-in-loop-entry
bounds-places-number-in-loop-entry g c = omega (arith, found_below c.args.seats.now c.args.handed_out c.requires.whole c.requires.most c.by.result c.in-Some.seat.now (c.in-Some.ensures {u = tt}))

pub bounds-places-number-in-loop-entry-2 : goal.bounds-places-number-in-loop-entry-2
bounds-places-number-in-loop-entry-2 g c = omega (arith, found_below c.args.seats.now c.args.handed_out c.requires.whole c.requires.most c.by.result c.in-Some.seat.now (c.in-Some.ensures {u = tt}))

pub bounds-places-from : goal.bounds-places-from
bounds-places-from g c = omega (arith, number_below c.args.seats.now c.args.handed_out c.requires.whole c.requires.most c.loop-seat.seat-index c.seat-item.result c.loop-seat-test.true c.seat-item.is)
