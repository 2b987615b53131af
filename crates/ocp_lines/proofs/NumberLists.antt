-- Numbers, one word after the other.
use Rattle.std.proofs.Common.{◌≡◌, ◌++◌, ◌*◌, ◌-◌, ◌^◌, ◌&&◌, List, [], ◌∷◌, ℕ, Bool, true, false, leb, cond, length, refl, sym, ap, ◌∙◌, arith, append_assoc, length-append, Option, Some, None}
use Rattle.std.proofs.lemmas.Bool.{lt-leb}
use Rattle.std.specs.Int.{bytes_high_first}
use Rattle.std.specs.List.{flat_map}
use Rattle.ocp_lines.specs.Words.{Word, number_up_to}
use Rattle.ocp_lines.specs.Grammar.{numbers, one_to_eight, parameters_in, both}

-- numbers before those that follow
abbrev pub behind : List ℕ → Option (List ℕ) → Option (List ℕ)
behind ns None = None
behind ns (Some ms) = Some (ns ++ ms)

behind-none : (o : Option (List ℕ)) → o ≡ behind [] o
behind-none None = refl
behind-none (Some ms) = refl

behind-both : (ns : List ℕ) (n : ℕ) (o : Option (List ℕ)) → behind ns (both (Some n) o (λ n ns. n ∷ ns)) ≡ behind (ns ++ n ∷ []) o
behind-both ns n None = refl
behind-both ns n (Some ms) = ap (λ (t : List ℕ). Some t) (sym (append_assoc ns (n ∷ []) ms))

pub more_numbers : (words left : List Word) (word : Word) (rest : List Word) (ns ms : List ℕ) (n : ℕ) → numbers words ≡ behind ns (numbers left) → left ≡ word ∷ rest → Some n ≡ number_up_to (2 ^ 64 - 1) word → ms ≡ ns ++ n ∷ [] → numbers words ≡ behind ms (numbers rest)
more_numbers words left word rest ns ms n e is value more =
    e ∙ ap (λ (ws : List Word). behind ns (numbers ws)) is ∙ rw (← value) (behind-both ns n (numbers rest)) ∙ ap (λ (t : List ℕ). behind t (numbers rest)) (sym more)

pub no_number : (words left : List Word) (word : Word) (rest : List Word) (ns : List ℕ) → numbers words ≡ behind ns (numbers left) → left ≡ word ∷ rest → None ≡ number_up_to (2 ^ 64 - 1) word → None ≡ parameters_in words
no_number words left word rest ns e is value = rw (e, is, ← value) refl

more_than_eight : (ns : List ℕ) (n : ℕ) (o : Option (List ℕ)) → length ns ≡ 8 → None ≡ one_to_eight (behind ns (both (Some n) o (λ n ns. n ∷ ns)))
more_than_eight ns n None e = refl
more_than_eight ns n (Some ms) e =
    let t : leb (length (ns ++ n ∷ ms)) 8 ≡ false = lt-leb _ _ (omega (arith, e, length-append ns (n ∷ ms))) in
    rw t (never (leb 1 (length (ns ++ n ∷ ms))) (ns ++ n ∷ ms))
  where
    never : (b : Bool) (ms : List ℕ) → None ≡ cond (b && false) (Some ms) None
    never true ms = refl
    never false ms = refl

pub too_many : (words left : List Word) (word : Word) (rest : List Word) (ns : List ℕ) (n : ℕ) → numbers words ≡ behind ns (numbers left) → left ≡ word ∷ rest → Some n ≡ number_up_to (2 ^ 64 - 1) word → length ns ≡ 8 → None ≡ parameters_in words
too_many words left word rest ns n e is value full = rw (e, is, ← value) (more_than_eight ns n (numbers rest) full)

-- each word has eight octets
pub octets_of_words : (words : List ℕ) → length (flat_map (bytes_high_first 8) words) ≡ 8 * length words
octets_of_words [] = refl
octets_of_words (word ∷ words) = omega (arith, octets_of_words words)
