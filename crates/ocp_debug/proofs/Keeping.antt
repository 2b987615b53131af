-- The last of a list of records.
use Rattle.std.proofs.Common.{◌≡◌, ℕ, ◌+◌, ◌-◌, ◌≤◌, List, [], ◌++◌, length, drop, ap, sym, ◌∙◌, arith, length-append, length-drop}
use Rattle.std.proofs.lemmas.List.{drop-drop, drop-append-le, append-nil}
use Rattle.circular_buffer.specs.Buffer.{keep_last}

module _ {X : Type 0} where
  -- the last n of the last n and more are the last n of all
  pub keep_last-keep_last : (n : ℕ) (old new : List X) → keep_last n (keep_last n old ++ new) ≡ keep_last n (old ++ new)
  keep_last-keep_last n old new =
      let gone : ℕ = length old - n in
      let few : gone ≤ length old = omega arith in
      let lens : length (drop gone old ++ new) ≡ length old - gone + length new = length-append (drop gone old) new ∙ ap (λ k. k + length new) (length-drop gone old) in
      let whole : gone + (length old - gone + length new - n) ≡ length (old ++ new) - n = omega (arith, length-append old new) in
      ap (λ k. drop k (drop gone old ++ new)) (ap (λ k. k - n) lens)
      ∙ ap (drop (length old - gone + length new - n)) (sym (drop-append-le gone old new few))
      ∙ drop-drop (length old - gone + length new - n) gone (old ++ new)
      ∙ ap (λ k. drop k (old ++ new)) whole

  -- a list that is short enough is kept whole
  pub keep_last-few : (n : ℕ) (xs : List X) → length xs ≤ n → keep_last n (xs ++ []) ≡ xs
  keep_last-few n xs few =
      let none : length xs - n ≡ 0 = omega arith in
      ap (keep_last n) (append-nil xs) ∙ ap (λ k. drop k xs) none
