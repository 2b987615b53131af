-- What workers leave.
use Rattle.std.proofs.Common.{◌≡◌, ◌≤◌, ◌<◌, ◌==◌, ℕ, zero, suc, Bool, true, false, cond, List, [], ◌∷◌, ◌++◌, length, drop, filter, get_or, All, refl, ap, sym, subst, ◌∙◌, arith}
use Rattle.std.proofs.lemmas.List.Elements.{All-nil, All-head, All-tail, All-push, All-same, All-map}
use Rattle.ocp_world.specs.After.{is_accepted}
use Rattle.ocp_core.specs.Log.{Log, Entry, Asked, Steps, Debugged, Drained, Wrote}
use Rattle.ocp_core.specs.Marks.{MarkedEntry, by_of, entries_with_marks, entries_by}
use Rattle.ocp_seats.specs.Seats.{SeatContents}
use Rattle.ocp_slices.specs.Continuing.{IsShift, Continues, AllContinue}
use Rattle.ocp_slices.specs.Closed.{IsClosed, IsWorked, HasWorked}

-- seats with no receipts
pub fresh_none : All (λ (s : SeatContents). s.receipts ≡ []) []
fresh_none = All-nil (λ (s : SeatContents). s.receipts ≡ [])

pub fresh_more : (seats : List SeatContents) (s : SeatContents) → All (λ (x : SeatContents). x.receipts ≡ []) seats → s.receipts ≡ [] → All (λ (x : SeatContents). x.receipts ≡ []) (seats ++ s ∷ [])
fresh_more seats s all none = All-push (λ (x : SeatContents). x.receipts ≡ []) seats s all none

-- what holds of all that a filter keeps holds of each element that passes it
module _ {X : Type 0} (p : X → Bool) (P : X → Type 0) where
  by_test : (x : X) (xs : List X) (b : Bool) → p x ≡ b → All P (cond b (x ∷ filter p xs) (filter p xs))
      → (All P (filter p xs) → (j : ℕ) (d : X) → j < length xs → p (get_or xs j d) ≡ true → P (get_or xs j d))
      → (j : ℕ) (d : X) → j < length (x ∷ xs) → p (get_or (x ∷ xs) j d) ≡ true → P (get_or (x ∷ xs) j d)
  by_test x xs true same all further zero d lt is = All-head P x (filter p xs) all
  by_test x xs true same all further (suc j) d lt is = further (All-tail P x (filter p xs) all) j d (omega arith) is
  by_test x xs false same all further zero d lt is = absurd (cc)
  by_test x xs false same all further (suc j) d lt is = further all j d (omega arith) is

  kept : (xs : List X) → All P (filter p xs) → (i : ℕ) (d : X) → i < length xs → p (get_or xs i d) ≡ true → P (get_or xs i d)
  kept [] all i d lt is = absurd (omega arith)
  kept (x ∷ xs) all i d lt is = by_test x xs (p x) refl all (kept xs) i d lt is

worked_of_shift : (crew budget number : ℕ) (e : Entry) → 1 ≤ number → number ≤ crew → IsShift number budget e → IsWorked crew budget e
worked_of_shift crew budget number (Asked by time octets) low high shift = absurd shift
worked_of_shift crew budget number (Steps by id count) low high shift = (omega (arith, shift.0), omega (arith, shift.0), shift.1)
worked_of_shift crew budget number (Debugged by id command) low high shift = absurd shift
worked_of_shift crew budget number (Drained by time) low high shift = absurd shift
worked_of_shift crew budget number (Wrote by index value) low high shift = absurd shift

-- the receipts of a seat that had none are what it gained
gained : (turns budget : ℕ) (old new : SeatContents) (one : Continues turns budget old new) → old.receipts ≡ [] → new.receipts ≡ one.more
gained turns budget old new one none = one.receipts ∙ ap (λ (l : List MarkedEntry). l ++ one.more) none

-- a receipt of instructions by the seat of this number, of which the last was done
abbrev IsShifted : ℕ → ℕ → MarkedEntry → Type 0
IsShifted budget number m = IsShift number budget m.entry × (is_accepted m.mark ≡ true)

abbrev IsKept : ℕ → ℕ → MarkedEntry → Type 0
IsKept crew budget m = IsWorked crew budget m.entry × (is_accepted m.mark ≡ true)

all_kept : (start now : Log) (olds news : List SeatContents) (crew budget turns : ℕ) → length olds ≡ crew → All (λ (s : SeatContents). s.receipts ≡ []) olds → AllContinue turns budget olds news → IsClosed start now news
    → All (IsKept crew budget) (drop (length start.entries) (entries_with_marks now))
all_kept start now olds news crew budget turns many fresh goes closed = λ i d lt.
    let ms : List MarkedEntry = drop (length start.entries) (entries_with_marks now) in
    let m : MarkedEntry = get_or ms i d in
    let (k, s, inside, read, by) = closed.history.receipts.covered i d lt in
    let seat : SeatContents = get_or news k s in
    let before : k < length olds = omega (arith, goes.count) in
    let old : SeatContents = get_or olds k s in
    let one : Continues turns budget old seat = goes.each k s before in
    let more : All (IsShifted budget old.number) one.more = (λ j e inside. (one.shifts j e inside, one.done j e inside)) in
    let shifts : All (IsShifted budget old.number) seat.receipts = subst (λ (l : List MarkedEntry). All (IsShifted budget old.number) l) (sym (gained turns budget old seat one (fresh k s before))) more in
    let own : All (IsShifted budget old.number) (entries_by ms seat.number) = subst (λ (l : List MarkedEntry). All (IsShifted budget old.number) l) (closed.history.receipts.receipts k s inside) shifts in
    let number : by_of m.entry ≡ seat.number = sym by ∙ sym (ap (λ (x : SeatContents). x.number) read) in
    let passes : (by_of m.entry == seat.number) ≡ true = grind arith in
    let shift : IsShifted budget old.number m = kept (λ (x : MarkedEntry). by_of x.entry == seat.number) (IsShifted budget old.number) ms own i d lt passes in
    let bounds = closed.whole.within k s inside in
    (worked_of_shift crew budget old.number m.entry (omega (arith, bounds.0, one.number)) (omega (arith, bounds.1, one.number, goes.count, many)) shift.0, shift.1)

pub worked_by : (start now : Log) (olds news : List SeatContents) (crew budget turns : ℕ) → length olds ≡ crew → All (λ (s : SeatContents). s.receipts ≡ []) olds → AllContinue turns budget olds news → IsClosed start now news → HasWorked start now crew budget turns
worked_by start now olds news crew budget turns many fresh goes closed =
    let both : All (IsKept crew budget) (drop (length start.entries) (entries_with_marks now)) = all_kept start now olds news crew budget turns many fresh goes closed in record {
      seats = news;
      count = goes.count ∙ many;
      closed = closed;
      few = λ k d inside.
          let before : k < length olds = omega (arith, goes.count) in
          let one : Continues turns budget (get_or olds k d) (get_or news k d) = goes.each k d before in
          omega (arith, one.few, ap (λ (l : List MarkedEntry). length l) (gained turns budget (get_or olds k d) (get_or news k d) one (fresh k d before)));
      worked = All-same (λ (e : Entry). IsWorked crew budget e) _ _ (sym closed.history.entries)
          (All-map (λ (e : Entry). IsWorked crew budget e) (λ (m : MarkedEntry). m.entry) (drop (length start.entries) (entries_with_marks now))
          (λ i d lt. (both i d lt).0));
      done = λ i d lt. (both i d lt).1;
    }
