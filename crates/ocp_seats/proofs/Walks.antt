-- The walk over the entries, with a place in each seat's receipts.
use Rattle.std.proofs.Common.{◌≡◌, ◌≢◌, ℕ, ◌+◌, ◌<◌, ◌≤◌, ◌==◌, Bool, true, false, eqb, List, [], ◌∷◌, ◌++◌, length, take, drop, set, get_or, refl, ap, sym, ◌∙◌, subst, arith, filter, count_by, All, Any, zero, suc, Some, IsTrue, ◌↔◌, slice_get, length-append, length-set, replicate, map}
use Rattle.std.specs.Prelude.{slice_index_or}
use Rattle.std.proofs.lemmas.Grind.{common_steps}
use Rattle.std.proofs.lemmas.List.{take_more, drop_more, take-append-drop, append-nil, get_or-set_same, get_or-set_other, get_or-map, get_or_default, length-map, length-take-le}
use Rattle.std.proofs.lemmas.List.Elements.{filter-append, filter_more, All-push, All-same}
use Rattle.std.proofs.lemmas.Option.{get_or_from_slice_get, slice_get_within, slice_get_read}
use Rattle.std.proofs.Math.Seq.{get_or-append_seam, take-length}
use Rattle.ocp_core.specs.Marks.{MarkedEntry, by_of, entries_by}
use Rattle.ocp_seats.specs.Seats.{SeatContents}
use Rattle.ocp_seats.specs.Closing.{IsWhole, IsReceipted}

-- after i entries: each was by a seat, and each seat's receipts before its place are its entries among them
pub record Walked (entries : List MarkedEntry) (i : ℕ) (places : List ℕ) (seats : List SeatContents) : Type 0 where
  pub covered : All (λ (e : MarkedEntry). Any (λ (s : SeatContents). s.number ≡ by_of e.entry) seats) (take i entries)
  pub matched : All (λ (s : SeatContents). take (get_or places s.number 0) s.receipts ≡ entries_by (take i entries) s.number) seats
  pub within : All (λ (s : SeatContents). get_or places s.number 0 ≤ length s.receipts) seats
  pub long : length places ≡ 65

-- two places of the list at which the test passes are one, if it passes once
count_positive : {X : Type 0} (p : X → Bool) (xs : List X) (i : ℕ) (d : X) → i < length xs → p (get_or xs i d) ≡ true → 1 ≤ count_by p xs
count_positive p [] i d lt this = absurd (omega arith)
count_positive p (x ∷ xs) zero d lt this = grind (arith, common_steps)
count_positive p (x ∷ xs) (suc i) d lt this = let more = count_positive p xs i d (omega arith) this in grind (arith, common_steps)

pub same_place : {X : Type 0} (p : X → Bool) (xs : List X) (i j : ℕ) (d : X) → count_by p xs ≡ 1 → i < length xs → j < length xs → p (get_or xs i d) ≡ true → p (get_or xs j d) ≡ true → i ≡ j
same_place p [] i j d one lt lt' this that = absurd (omega arith)
same_place p (x ∷ xs) zero zero d one lt lt' this that = refl
same_place p (x ∷ xs) zero (suc j) d one lt lt' this that = let more = count_positive p xs j d (omega arith) that in absurd (grind (arith, common_steps))
same_place p (x ∷ xs) (suc i) zero d one lt lt' this that = let more = count_positive p xs i d (omega arith) this in absurd (grind (arith, common_steps))
same_place p (x ∷ xs) (suc i) (suc j) d one lt lt' this that =
    let more = count_positive p xs i d (omega arith) this in
    let less : count_by p xs ≡ 1 = grind (arith, common_steps) in
    ap suc (same_place p xs i j d less (omega arith) (omega arith) this that)

-- two seats of one number are one seat
pub distinct : (seats : List SeatContents) (n : ℕ) → IsWhole seats n → (i j : ℕ) (d : SeatContents) → i < length seats → j < length seats → (get_or seats i d).number ≡ (get_or seats j d).number → i ≡ j
distinct seats n whole i j d lt lt' same =
    let k = (get_or seats j d).number in
    let inside = whole.within j d lt' in
    same_place (λ (s : SeatContents). s.number == k) seats i j d (whole.each_once k inside.0 inside.1) lt lt' (rw same (grind arith)) (grind arith)

step_same : (p : MarkedEntry → Bool) (entries receipts : List MarkedEntry) (i place : ℕ) (e : MarkedEntry) → i < length entries → e ≡ get_or entries i e → place < length receipts → e ≡ get_or receipts place e → p e ≡ true → take place receipts ≡ filter p (take i entries) → take (place + 1) receipts ≡ filter p (take (i + 1) entries)
step_same p entries receipts i place e lt is lt' is' this so_far =
    let one : take (place + 1) receipts ≡ take place receipts ++ e ∷ [] = rw (take_more receipts place e lt', ← is') refl in
    let other : filter p (take (i + 1) entries) ≡ filter p (take i entries) ++ e ∷ [] = rw (filter_more p entries i e lt, ← is, this) refl in
    one ∙ (ap (λ (l : List MarkedEntry). l ++ e ∷ []) so_far ∙ sym other)

step_other : (p : MarkedEntry → Bool) (entries : List MarkedEntry) (i : ℕ) (e : MarkedEntry) → i < length entries → e ≡ get_or entries i e → p e ≡ false → filter p (take (i + 1) entries) ≡ filter p (take i entries)
step_other p entries i e lt is this = rw (filter_more p entries i e lt, ← is, this) (append-nil (filter p (take i entries)))

-- what a receipt at a place gives of the rest of the entries
rest_is : (p : MarkedEntry → Bool) (entries : List MarkedEntry) (i : ℕ) (e : MarkedEntry) → i < length entries → e ≡ get_or entries i e → p e ≡ true → filter p entries ≡ filter p (take i entries) ++ e ∷ filter p (drop (i + 1) entries)
rest_is p entries i e lt is this =
    let parts : take i entries ++ e ∷ drop (i + 1) entries ≡ entries = ap (λ (l : List MarkedEntry). take i entries ++ l) (ap (λ (x : MarkedEntry). x ∷ drop (i + 1) entries) is ∙ sym (drop_more entries i e lt)) ∙ take-append-drop i entries in
    let cut = filter-append p (take i entries) (e ∷ drop (i + 1) entries) in
    ap (filter p) (sym parts) ∙ (cut ∙ rw this refl)

-- the entry is by a seat
abbrev pub IsBySeat : List SeatContents → MarkedEntry → Type 0
IsBySeat seats e = Any (λ (s : SeatContents). s.number ≡ by_of e.entry) seats

-- the walk goes on past an entry that is the seat's next receipt
pub walk_on : (entries : List MarkedEntry) (i : ℕ) (places : List ℕ) (seats : List SeatContents) (n : ℕ) → IsWhole seats n → n ≤ 64 → Walked entries i places seats
    → (e : MarkedEntry) → i < length entries → e ≡ get_or entries i e
    → (m : ℕ) (s : SeatContents) → m < length seats → s ≡ get_or seats m s → s.number ≡ by_of e.entry
    → get_or places (by_of e.entry) 0 < length s.receipts → e ≡ get_or s.receipts (get_or places (by_of e.entry) 0) e
    → Walked entries (i + 1) (set places (by_of e.entry) (get_or places (by_of e.entry) 0 + 1)) seats
walk_on entries i places seats n whole most walked e lt is m s lt' is' by room next = record {
  covered = All-same (IsBySeat seats) _ _ (take_more entries i e lt) (All-push (IsBySeat seats) (take i entries) (get_or entries i e) walked.covered here);
  matched = λ k d lt''. matched k d lt'' (eqb (get_or seats k d).number (by_of e.entry)) refl;
  within = λ k d lt''. within k d lt'' (eqb (get_or seats k d).number (by_of e.entry)) refl;
  long = length-set places (by_of e.entry) (get_or places (by_of e.entry) 0 + 1) ∙ walked.long;
}
  where
    here : IsBySeat seats (get_or entries i e)
    here = (m, s, lt', sym is', by ∙ ap (λ (x : MarkedEntry). by_of x.entry) is)

    place : ℕ
    place = get_or places (by_of e.entry) 0

    after : List ℕ
    after = set places (by_of e.entry) (place + 1)

    small : by_of e.entry < length places
    small = let inside = (whole.within m s lt') in omega (arith, walked.long, by, ap (λ (x : SeatContents). x.number) is')

    same_seat : (k : ℕ) (d : SeatContents) → k < length seats → (get_or seats k d).number ≡ by_of e.entry → get_or seats k d ≡ s
    same_seat k d lt'' number =
        let read : get_or seats m d ≡ s = get_or_default seats m d s lt' ∙ sym is' in
        let index : k ≡ m = distinct seats n whole k m d lt'' lt' (number ∙ sym (ap (λ (x : SeatContents). x.number) read ∙ by)) in
        ap (λ (j : ℕ). get_or seats j d) index ∙ read

    matched_by_hand : take (get_or after (by_of e.entry) 0) s.receipts ≡ entries_by (take (i + 1) entries) (by_of e.entry)
    matched_by_hand =
        let so_far : take place s.receipts ≡ entries_by (take i entries) (by_of e.entry) = subst (λ (v : ℕ). take (get_or places v 0) s.receipts ≡ entries_by (take i entries) v) by (subst (λ (t : SeatContents). take (get_or places t.number 0) t.receipts ≡ entries_by (take i entries) t.number) (sym is') (walked.matched m s lt')) in
        rw (get_or-set_same places (by_of e.entry) (place + 1) 0 small) (step_same (λ (x : MarkedEntry). by_of x.entry == by_of e.entry) entries s.receipts i place e lt is room next (grind arith) so_far)

    matched : (k : ℕ) (d : SeatContents) → k < length seats → (b : Bool) → eqb (get_or seats k d).number (by_of e.entry) ≡ b → take (get_or after (get_or seats k d).number 0) (get_or seats k d).receipts ≡ entries_by (take (i + 1) entries) (get_or seats k d).number
    matched k d lt'' true same =
        let number : (get_or seats k d).number ≡ by_of e.entry = grind arith in
        let Q : ℕ → Type 0 = λ v. take (get_or after v 0) s.receipts ≡ entries_by (take (i + 1) entries) v in
        let P : SeatContents → Type 0 = λ t. take (get_or after t.number 0) t.receipts ≡ entries_by (take (i + 1) entries) t.number in
        subst P (sym (same_seat k d lt'' number)) (subst Q (sym by) matched_by_hand)
    matched k d lt'' false other =
        let v = (get_or seats k d).number in
        let apart : v ≢ by_of e.entry = grind arith in
        let none : (by_of e.entry == v) ≡ false = grind arith in
        rw (get_or-set_other places (by_of e.entry) v (place + 1) 0 apart) (walked.matched k d lt'' ∙ sym (step_other (λ (x : MarkedEntry). by_of x.entry == v) entries i e lt is none))

    within : (k : ℕ) (d : SeatContents) → k < length seats → (b : Bool) → eqb (get_or seats k d).number (by_of e.entry) ≡ b → get_or after (get_or seats k d).number 0 ≤ length (get_or seats k d).receipts
    within k d lt'' true same =
        let number : (get_or seats k d).number ≡ by_of e.entry = grind arith in
        let enough : get_or after (get_or seats k d).number 0 ≡ place + 1 = rw number (get_or-set_same places (by_of e.entry) (place + 1) 0 small) in
        let long : length (get_or seats k d).receipts ≡ length s.receipts = ap (λ (x : SeatContents). length x.receipts) (same_seat k d lt'' number) in
        omega arith
    within k d lt'' false other =
        let apart : (get_or seats k d).number ≢ by_of e.entry = grind arith in
        rw (get_or-set_other places (by_of e.entry) (get_or seats k d).number (place + 1) 0 apart) (walked.within k d lt'')

-- no seat has made the entry
pub not_by_any : (entries : List MarkedEntry) (i : ℕ) (seats : List SeatContents) (e : MarkedEntry) → i < length entries → e ≡ get_or entries i e → All (λ (s : SeatContents). s.number ≢ by_of e.entry) seats → IsReceipted entries seats → ⊥
not_by_any entries i seats e lt is none good =
    let (k, s, lt', read, by) = good.covered i e lt in
    none k s lt' (ap (λ (x : SeatContents). x.number) read ∙ (by ∙ ap (λ (x : MarkedEntry). by_of x.entry) (sym is)))

-- the seat's next receipt is the entry, if the seats' receipts are the entries
pub next_is : (entries : List MarkedEntry) (i : ℕ) (places : List ℕ) (seats : List SeatContents) → Walked entries i places seats
    → (e : MarkedEntry) → i < length entries → e ≡ get_or entries i e
    → (m : ℕ) (s : SeatContents) → m < length seats → s ≡ get_or seats m s → s.number ≡ by_of e.entry
    → IsReceipted entries seats → (get_or places (by_of e.entry) 0 < length s.receipts) × (get_or s.receipts (get_or places (by_of e.entry) 0) e ≡ e)
next_is entries i places seats walked e lt is m s lt' is' by good =
    let place = get_or places (by_of e.entry) 0 in
    let done = entries_by (take i entries) (by_of e.entry) in
    let so_far : take place s.receipts ≡ done = subst (λ (v : ℕ). take (get_or places v 0) s.receipts ≡ entries_by (take i entries) v) by (subst (λ (t : SeatContents). take (get_or places t.number 0) t.receipts ≡ entries_by (take i entries) t.number) (sym is') (walked.matched m s lt')) in
    let inside : place ≤ length s.receipts = subst (λ (v : ℕ). get_or places v 0 ≤ length s.receipts) by (subst (λ (t : SeatContents). get_or places t.number 0 ≤ length t.receipts) (sym is') (walked.within m s lt')) in
    let all : s.receipts ≡ entries_by entries (by_of e.entry) = subst (λ (v : ℕ). s.receipts ≡ entries_by entries v) by (subst (λ (t : SeatContents). t.receipts ≡ entries_by entries t.number) (sym is') (good.receipts m s lt')) in
    let rest = entries_by (drop (i + 1) entries) (by_of e.entry) in
    let split : s.receipts ≡ done ++ e ∷ rest = all ∙ rest_is (λ (x : MarkedEntry). by_of x.entry == by_of e.entry) entries i e lt is (grind arith) in
    let count : length done ≡ place = ap length (sym so_far) ∙ length-take-le place s.receipts inside in (
      omega (arith, ap length split, length-append done (e ∷ rest)),
      ap (λ (l : List MarkedEntry). get_or l place e) split ∙ (ap (λ (j : ℕ). get_or (done ++ e ∷ rest) j e) (sym count) ∙ get_or-append_seam done e rest e),
    )

-- all entries were walked, and each place is at its end
pub walked_all : (entries : List MarkedEntry) (places : List ℕ) (seats : List SeatContents) → Walked entries (length entries) places seats → All (λ (s : SeatContents). get_or places s.number 0 ≡ length s.receipts) seats → IsReceipted entries seats
walked_all entries places seats walked ends =
    let whole = take-length entries in
    record {
      covered = All-same (IsBySeat seats) entries _ (sym whole) walked.covered;
      receipts = λ k d lt.
          let r = (get_or seats k d).receipts in
          let v = (get_or seats k d).number in
          sym (take-length r) ∙ (ap (λ (j : ℕ). take j r) (sym (ends k d lt)) ∙ (walked.matched k d lt ∙ ap (λ (l : List MarkedEntry). entries_by l v) whole));
    }

pub place_is_end : (entries : List MarkedEntry) (places : List ℕ) (seats : List SeatContents) → Walked entries (length entries) places seats → (m : ℕ) (s : SeatContents) → m < length seats → s ≡ get_or seats m s → IsReceipted entries seats → get_or places s.number 0 ≡ length s.receipts
place_is_end entries places seats walked m s lt' is' good =
    let place = get_or places s.number 0 in
    let so_far : take place s.receipts ≡ entries_by (take (length entries) entries) s.number = subst (λ (t : SeatContents). take (get_or places t.number 0) t.receipts ≡ entries_by (take (length entries) entries) t.number) (sym is') (walked.matched m s lt') in
    let inside : place ≤ length s.receipts = subst (λ (t : SeatContents). get_or places t.number 0 ≤ length t.receipts) (sym is') (walked.within m s lt') in
    let all : s.receipts ≡ entries_by entries s.number = subst (λ (t : SeatContents). t.receipts ≡ entries_by entries t.number) (sym is') (good.receipts m s lt') in
    let same : take place s.receipts ≡ s.receipts = so_far ∙ (ap (λ (l : List MarkedEntry). entries_by l s.number) (take-length entries) ∙ sym all) in
    sym (length-take-le place s.receipts inside) ∙ ap length same

-- no entry was walked
pub none_walked : (entries : List MarkedEntry) (places : List ℕ) (seats : List SeatContents) → length places ≡ 65 → ((k : ℕ) → get_or places k 0 ≡ 0) → Walked entries 0 places seats
none_walked entries places seats long zeros = record {
  covered = λ k d lt. absurd (omega arith);
  matched = λ k d lt. ap (λ (j : ℕ). take j (get_or seats k d).receipts) (zeros (get_or seats k d).number);
  within = λ k d lt. omega (arith, zeros (get_or seats k d).number);
  long = long;
}

pub zeros_read : (n k : ℕ) → get_or {A = ℕ} (replicate n 0) k 0 ≡ 0
zeros_read zero k = refl
zeros_read (suc n) zero = refl
zeros_read (suc n) (suc k) = zeros_read n k

-- a number that one of the seats has is a place's index
pub number_below : (seats : List SeatContents) (n : ℕ) → IsWhole seats n → n ≤ 64 → (m : ℕ) (s : SeatContents) → m < length seats → s ≡ get_or seats m s → s.number < 65
number_below seats n whole most m s lt is = let inside = whole.within m s lt in omega (arith, ap (λ (x : SeatContents). x.number) is)

pub found_below : (seats : List SeatContents) (n : ℕ) → IsWhole seats n → n ≤ 64 → (number : ℕ) (s : SeatContents) → (s.number ≡ number) × ((m : ℕ) × (m < length seats) × (s ≡ slice_index_or seats m s)) → number < 65
found_below seats n whole most number s found = omega (arith, number_below seats n whole most found.1.0 s found.1.1 found.1.2, found.0)

-- ---- entries as they are kept

module _ {X : Type 0} (f : X → MarkedEntry) where
  read : (entries : List X) (i : ℕ) (e : X) → i < length entries → e ≡ get_or entries i e → f e ≡ get_or (map f entries) i (f e)
  read entries i e lt is = ap f is ∙ sym (get_or-map f entries i e (f e) lt)

  inside : (entries : List X) (i : ℕ) → i < length entries → i < length (map f entries)
  inside entries i lt = rw (length-map entries f) lt

  pub walk_past : (entries : List X) (i : ℕ) (places : List ℕ) (seats : List SeatContents) (n : ℕ) → IsWhole seats n → n ≤ 64 → Walked (map f entries) i places seats
      → (e : X) → i < length entries → e ≡ get_or entries i e
      → (m : ℕ) (s : SeatContents) → m < length seats → s ≡ get_or seats m s → s.number ≡ by_of (f e).entry
      → slice_get s.receipts (get_or places (by_of (f e).entry) 0) ≡ Some (f e)
      → Walked (map f entries) (i + 1) (set places (by_of (f e).entry) (get_or places (by_of (f e).entry) 0 + 1)) seats
  walk_past entries i places seats n whole most walked e lt is m s lt' is' by same =
      let place = get_or places (by_of (f e).entry) 0 in
      walk_on (map f entries) i places seats n whole most walked (f e) (inside entries i lt) (read entries i e lt is) m s lt' is' by (slice_get_within s.receipts place (f e) same) (sym (get_or_from_slice_get s.receipts place (f e) (f e) same))

  pub by_none : (entries : List X) (i : ℕ) (seats : List SeatContents) (e : X) → i < length entries → e ≡ get_or entries i e → All (λ (s : SeatContents). s.number ≢ by_of (f e).entry) seats → IsReceipted (map f entries) seats → ⊥
  by_none entries i seats e lt is none good = not_by_any (map f entries) i seats (f e) (inside entries i lt) (read entries i e lt is) none good

  pub receipt_is : (entries : List X) (i : ℕ) (places : List ℕ) (seats : List SeatContents) → Walked (map f entries) i places seats
      → (e : X) → i < length entries → e ≡ get_or entries i e
      → (m : ℕ) (s : SeatContents) → m < length seats → s ≡ get_or seats m s → s.number ≡ by_of (f e).entry
      → IsReceipted (map f entries) seats → slice_get s.receipts (get_or places (by_of (f e).entry) 0) ≡ Some (f e)
  receipt_is entries i places seats walked e lt is m s lt' is' by good =
      let place = get_or places (by_of (f e).entry) 0 in
      let next = next_is (map f entries) i places seats walked (f e) (inside entries i lt) (read entries i e lt is) m s lt' is' by good in
      slice_get_read s.receipts (length s.receipts) place (f e) refl next.0 (sym next.1)

  -- the receipt at a place, as it is kept
  pub receipt_past : (rs : List X) (ms : List MarkedEntry) (place : ℕ) (m : MarkedEntry) → map f rs ≡ ms → length rs ≤ place → slice_get ms place ≡ Some m → ⊥
  receipt_past rs ms place m is past got =
      let within = slice_get_within ms place m got in
      omega (arith, length-map rs f, ap length is)

  pub receipt_read : (rs : List X) (ms : List MarkedEntry) (place : ℕ) (x : X) (m : MarkedEntry) (b : Bool) → map f rs ≡ ms → place < length rs → x ≡ get_or rs place x → (IsTrue b ↔ (f x ≡ m)) → IsTrue b ↔ (slice_get ms place ≡ Some m)
  receipt_read rs ms place x m b is lt at same =
      let there : slice_get ms place ≡ Some (f x) = subst (λ (l : List MarkedEntry). slice_get l place ≡ Some (f x)) is (slice_get_read (map f rs) (length rs) place (f x) (sym (length-map rs f)) lt (read rs place x lt at)) in (
        λ t. there ∙ ap Some (same.0 t),
        λ got.
            let both : Some (f x) ≡ Some m = sym there ∙ got in
            let one : f x ≡ m = cc in
            same.1 one,
      )
