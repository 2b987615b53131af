-- An entry that is read by its index.
use Rattle.std.proofs.Common.{◌≡◌, ◌≤◌, ◌<◌, ◌+◌, ◌-◌, ℕ, zero, suc, true, false, cond, List, [], ◌∷◌, ◌++◌, length, drop, get_or, refl, sym, ap, ◌∙◌, arith}
use Rattle.std.specs.Prelude.{nat_lt, nat_le, Option, None, Some, Ok, Err, slice_get}
use Rattle.std.specs.Option.{option_map}
use Rattle.std.proofs.lemmas.Bool.Decides.{nat_tests}
use Rattle.std.proofs.lemmas.Option.{slice_get-map, slice_get-get_or}
use Rattle.circular_buffer.proofs.Places.{slice_get-drop}
use Rattle.ocp_core.specs.Log.{Entry}
use Rattle.ocp_flight.specs.declared.faults.EntryFault.TheVariants.{Released, NotYet, TooShort}
use Rattle.ocp_flight.specs.Entries.{entry_octets}
use Rattle.ocp_flight.specs.Flown.{first, length_told, octets_written, entry_at, entry_answer, entry_written}
use Rattle.ocp_flight.specs.Mirror.Kept.{before_of, released_count, flown_of, IsKept}
use Rattle.ocp_flight.specs.declared.store.BoundedStore.TheInside.{Inside}

-- ---- the answer about an entry

pub none_told : (o : Option Entry) (size : ℕ) → None ≡ option_map length (option_map entry_octets o) → length_told size o ≡ Err NotYet
none_told None size is = refl
none_told (Some e) size is = cc

not_within : (n size : ℕ) → size < n → nat_le n size ≡ false
not_within n size more = grind (arith, nat_tests)

within : (n size : ℕ) → n ≤ size → nat_le n size ≡ true
within n size few = grind (arith, nat_tests)

pub short_told : (o : Option Entry) (n size : ℕ) → Some n ≡ option_map length (option_map entry_octets o) → size < n → length_told size o ≡ Err (TooShort n)
short_told None n size is more = cc
short_told (Some e) n size is more =
    let same : n ≡ length (entry_octets e) = cc in
    ap (λ b. cond b (Ok (length (entry_octets e))) (Err (TooShort (length (entry_octets e))))) (ap (λ k. nat_le k size) (sym same) ∙ not_within n size more)
    ∙ ap (λ k. Err (TooShort k)) (sym same)

pub done_told : (o : Option Entry) (n size : ℕ) → Some n ≡ option_map length (option_map entry_octets o) → n ≤ size → length_told size o ≡ Ok n
done_told None n size is few = cc
done_told (Some e) n size is few =
    let same : n ≡ length (entry_octets e) = cc in
    ap (λ b. cond b (Ok (length (entry_octets e))) (Err (TooShort (length (entry_octets e))))) (ap (λ k. nat_le k size) (sym same) ∙ within n size few)
    ∙ ap Ok (sym same)

-- ---- what is written of it

pub none_written : (o : Option Entry) (before : List ℕ) → None ≡ option_map length (option_map entry_octets o) → octets_written before o ≡ before
none_written None before is = refl
none_written (Some e) before is = cc

pub short_written : (o : Option Entry) (n : ℕ) (before : List ℕ) → Some n ≡ option_map length (option_map entry_octets o) → length before < n → octets_written before o ≡ before
short_written None n before is more = cc
short_written (Some e) n before is more =
    let same : n ≡ length (entry_octets e) = cc in
    ap (λ b. cond b (entry_octets e ++ drop (length (entry_octets e)) before) before) (ap (λ k. nat_le k (length before)) (sym same) ∙ not_within n (length before) more)

pub done_written : (o : Option Entry) (n : ℕ) (piece before after : List ℕ) → Some n ≡ option_map length (option_map entry_octets o) → n ≤ length before → Some piece ≡ option_map entry_octets o → after ≡ piece ++ drop (length piece) before → octets_written before o ≡ after
done_written None n piece before after is few found made = cc
done_written (Some e) n piece before after is few found made =
    let same : n ≡ length (entry_octets e) = cc in
    let octets : piece ≡ entry_octets e = cc in
    ap (λ b. cond b (entry_octets e ++ drop (length (entry_octets e)) before) before) (ap (λ k. nat_le k (length before)) (sym same) ∙ within n (length before) few)
    ∙ ap (λ p. p ++ drop (length p) before) (sym octets)
    ∙ sym made

-- ---- a piece of a length is there

pub some_there : (ps : List (List ℕ)) (i n : ℕ) → Some n ≡ option_map length (slice_get ps i) → i < length ps
some_there [] i n is = cc
some_there (p ∷ ps) zero n is = omega arith
some_there (p ∷ ps) (suc i) n is = omega (arith, some_there ps i n is)

pub some_piece : (ps : List (List ℕ)) (i n : ℕ) → Some n ≡ option_map length (slice_get ps i) → (slice_get ps i ≡ Some (get_or ps i [])) × (n ≡ length (get_or ps i []))
some_piece ps i n is =
    let at = slice_get-get_or ps i [] (some_there ps i n is) in
    let size : Some n ≡ Some (length (get_or ps i [])) = is ∙ ap (option_map length) at in
    (at, cc)

-- ---- where it is found

module _ {A : Type 0} (s : Inside A) (kept : IsKept s) where
  -- the index of the oldest entry that is held
  pub first_is : s.first ≡ first (flown_of s)
  first_is = omega (arith, kept.since)

  abbrev one_at : ℕ → Option Entry
  one_at index = entry_at (flown_of s) index

  module _ (index : ℕ) (from : s.first ≤ index) where
    pub found : slice_get s.tape.pieces (index - s.first) ≡ option_map entry_octets (one_at index)
    found =
        let at : index - before_of s ≡ released_count s + (index - s.first) = omega (arith, from, kept.since) in
        ap (λ ps. slice_get ps (index - s.first)) kept.held
        ∙ slice_get-drop (released_count s) s.history.pieces (index - s.first) (index - before_of s) at
        ∙ ap (λ ps. slice_get ps (index - before_of s)) (sym kept.octets)
        ∙ slice_get-map entry_octets (flown_of s).entries (index - before_of s)

    held : nat_lt index (first (flown_of s)) ≡ false
    held = let is = first_is in let apart : nat_lt index s.first ≡ false = grind (arith, nat_tests) in ap (λ n. nat_lt index n) (sym is) ∙ apart

    pub told : (size : ℕ) → entry_answer (flown_of s) index size ≡ length_told size (one_at index)
    told size = ap (λ b. cond b (Err Released) (length_told size (one_at index))) held

    pub written : (before : List ℕ) → entry_written (flown_of s) index before ≡ octets_written before (one_at index)
    written before = ap (λ b. cond b before (octets_written before (one_at index))) held

  -- it was released
  module _ (index : ℕ) (gone : index < s.first) where
    lost : nat_lt index (first (flown_of s)) ≡ true
    lost = let is = first_is in let within : nat_lt index s.first ≡ true = grind (arith, nat_tests) in ap (λ n. nat_lt index n) (sym is) ∙ within

    pub lost_told : (size : ℕ) → entry_answer (flown_of s) index size ≡ Err Released
    lost_told size = ap (λ b. cond b (Err Released) (length_told size (one_at index))) lost

    pub lost_written : (before : List ℕ) → entry_written (flown_of s) index before ≡ before
    lost_written before = ap (λ b. cond b before (octets_written before (one_at index))) lost
