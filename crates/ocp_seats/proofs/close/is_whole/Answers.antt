use Rattle.std.proofs.Common.{◌≡◌, ◌≤◌, ◌==◌, ℕ, arith, sym, ◌∙◌, refl, subst, get_or, count_by, below_more, rules}
use Rattle.ocp_seats.specs.Seats.{SeatContents}
use Rattle.std.proofs.lemmas.List.{get_or_default}
use Rattle.ocp_seats.proofs.close.is_whole.Goals as goal
use Rattle.ocp_seats.proofs.close.is_whole.Goals.{then-number-eq0-via-then-number-eq0, then-number-eq0-via-else-number-eq0+then-number-handed_out}

pub returns-then-count_number-ne1 : goal.returns-then-count_number-ne1
returns-then-count_number-ne1 g c = (λ t. cc, λ whole. absurd (c.if-count_number-ne1.true (c.count_number.ensures ∙ whole.each_once c.loop-number.number (omega arith) (omega arith))))

pub loop-number-preserved : goal.loop-number-preserved
loop-number-preserved g c =
    let P : ℕ → Type 0 = λ k. 1 ≤ k → count_by (λ (s : SeatContents). s.number == k) c.args.seats.now ≡ 1 in
    (c.loop-number.invariant.0, λ k low high. below_more P c.loop-number.number (λ j lt lo. c.loop-number.invariant.1 j lo lt) (λ lo. sym c.count_number.ensures ∙ c.if-count_number-ne1.false) k high low)

pub returns-else-count_number-ne1 : goal.returns-else-count_number-ne1
returns-else-count_number-ne1 g c =
    let P : ℕ → Type 0 = λ k. 1 ≤ k → count_by (λ (s : SeatContents). s.number == k) c.args.seats.now ≡ 1 in
    let number : c.from.result ≡ c.args.handed_out = search rules in (
      λ t. record {
        count = c.if-seats-from.false ∙ number;
        within = c.loop-number.invariant.0;
        each_once = λ k low high. below_more P c.loop-number.number (λ j lt lo. c.loop-number.invariant.1 j lo lt) (λ lo. sym c.count_number.ensures ∙ c.if-count_number-ne1.false) k (omega arith) low;
      },
      λ whole. refl,
    )

pub returns-then-seats-from : goal.returns-then-seats-from
returns-then-seats-from g c = (λ t. cc, λ whole. absurd (c.if-seats-from.true (whole.count ∙ sym c.from.ensures)))

pub returns-then-number-eq0 : goal.returns-then-number-eq0
returns-then-number-eq0 g c = (
  λ t. cc,
  λ whole.
      let s = c.seat-item.result in
      let inside : (1 ≤ s.number) × (s.number ≤ c.args.handed_out) = subst (λ (x : SeatContents). (1 ≤ x.number) × (x.number ≤ c.args.handed_out)) (sym c.seat-item.is) (whole.within c.loop-seat.seat-index s c.loop-seat-test.true) in
      elim c.then-number-eq0.branch [
        | then-number-eq0-via-then-number-eq0 w ↦ absurd (omega (arith, inside.0))
        | then-number-eq0-via-else-number-eq0+then-number-handed_out w ↦ absurd (omega (arith, inside.1))
      ],
)

pub loop-seat-preserved : goal.loop-seat-preserved
loop-seat-preserved g c =
    let s = c.seat-item.result in
    let IsWithin : SeatContents → Type 0 = λ x. (1 ≤ x.number) × (x.number ≤ c.args.handed_out) in
    let here : IsWithin s = (omega arith, omega arith) in
    let P : ℕ → Type 0 = λ k. (d : SeatContents) → IsWithin (get_or c.args.seats.now k d) in
    let there : P c.loop-seat.seat-index = λ d. subst IsWithin (c.seat-item.is ∙ get_or_default c.args.seats.now c.loop-seat.seat-index s d c.loop-seat-test.true) here in
    λ k d lt. below_more P c.loop-seat.seat-index (λ j less d'. c.loop-seat.invariant j d' less) there k lt d

pub loop-number-init : goal.loop-number-init
loop-number-init g c = (λ k d lt. c.loop-seat.invariant k d (omega arith), λ k low high. absurd (omega arith))
