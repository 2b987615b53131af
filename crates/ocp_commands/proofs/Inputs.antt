-- Inputs and their digits.
use Rattle.std.proofs.Common.{◌≡◌, ◌++◌, ◌≤◌, ◌+◌, ◌-◌, List, [], ◌∷◌, ℕ, true, false, length, take, get_or, refl, sym, ap, ◌∙◌, arith}
use Rattle.std.proofs.lemmas.List.{take_more, take_all}
use Rattle.ocp_commands.specs.Listings.{is_blank, onto_digits, digits_of}

blank-snoc : (p : List ℕ) (o : ℕ) → is_blank o ≡ true → digits_of (p ++ o ∷ []) ≡ digits_of p
blank-snoc [] o h = rw h refl
blank-snoc (a ∷ p) o h = ap (onto_digits a) (blank-snoc p o h)

onto-some : (a : ℕ) (p : List ℕ) (o : ℕ) → onto_digits a (p ++ o ∷ []) ≡ a ∷ (p ++ o ∷ [])
onto-some a [] o = refl
onto-some a (b ∷ p) o = refl

solid-snoc : (p : List ℕ) (o : ℕ) → is_blank o ≡ false → digits_of (p ++ o ∷ []) ≡ p ++ o ∷ []
solid-snoc [] o h = rw h refl
solid-snoc (a ∷ p) o h = ap (onto_digits a) (solid-snoc p o h) ∙ onto-some a p o

split_last : (t : List ℕ) → 1 ≤ length t → t ≡ take (length t - 1) t ++ get_or t (length t - 1) 0 ∷ []
split_last t h =
    let whole : take (length t - 1 + 1) t ≡ t = take_all (length t - 1 + 1) t (omega (arith, h)) in
    sym whole ∙ take_more t (length t - 1) 0 (omega (arith, h))

pub last_is_blank : (t : List ℕ) → 1 ≤ length t → is_blank (get_or t (length t - 1) 0) ≡ true → digits_of t ≡ digits_of (take (length t - 1) t)
last_is_blank t h blank = ap digits_of (split_last t h) ∙ blank-snoc (take (length t - 1) t) (get_or t (length t - 1) 0) blank

pub last_is_solid : (t : List ℕ) → 1 ≤ length t → is_blank (get_or t (length t - 1) 0) ≡ false → digits_of t ≡ t
last_is_solid t h solid = ap digits_of (split_last t h) ∙ solid-snoc (take (length t - 1) t) (get_or t (length t - 1) 0) solid ∙ sym (split_last t h)
