-- The first word of a text.
use Rattle.std.proofs.Common.{◌≡◌, ◌++◌, ◌<◌, ◌≤◌, ◌-◌, List, [], ◌∷◌, ℕ, zero, suc, Bool, true, false, eqb, not, ◌&&◌, length, refl, sym, ap, ◌∙◌, arith, take, drop, get_or, append-nil, take-append-drop, length-drop, Some, None}
use Rattle.std.proofs.lemmas.Bool.{eqb-true}
use Rattle.std.proofs.lemmas.Grind.{common_steps}
use Rattle.memchr.specs.Find.{IsFirstByte, Passes, is_byte}
use Rattle.ocp_lines.specs.Words.{Word, is_free_of, onto, pieces, words_of}

-- a word before the first piece
joined : List ℕ → List Word → List Word
joined word [] = word ∷ []
joined word (piece ∷ pieces) = (word ++ piece) ∷ pieces

solid-cons : (octet : ℕ) (word : List ℕ) → is_free_of 32 (octet ∷ word) ≡ true → (eqb octet 32 ≡ false) × (is_free_of 32 word ≡ true)
solid-cons octet word e = split (eqb octet 32) refl e
  where
    split : (b : Bool) → eqb octet 32 ≡ b → (not b && is_free_of 32 word) ≡ true → (eqb octet 32 ≡ false) × (is_free_of 32 word ≡ true)
    split true h g = absurd cc
    split false h g = (h, g)

onto-joined : (octet : ℕ) (ps : List Word) → onto octet ps ≡ joined (octet ∷ []) ps
unfolding joined
onto-joined octet [] = refl
onto-joined octet (p ∷ ps) = refl

onto-joined_more : (octet : ℕ) (word : List ℕ) (ps : List Word) → onto octet (joined word ps) ≡ joined (octet ∷ word) ps
unfolding joined
onto-joined_more octet word [] = refl
onto-joined_more octet word (p ∷ ps) = refl

joined-pieces : (octet : ℕ) (word rest : List ℕ) → is_free_of 32 (octet ∷ word) ≡ true → pieces ((octet ∷ word) ++ rest) ≡ joined (octet ∷ word) (pieces rest)
joined-pieces octet [] rest e = let s = solid-cons octet [] e in rw s.0 (onto-joined octet (pieces rest))
joined-pieces octet (next ∷ word) rest e = let s = solid-cons octet (next ∷ word) e in rw (s.0, joined-pieces next word rest s.1) (onto-joined_more octet (next ∷ word) (pieces rest))

-- the text ends, or a space comes
abbrev pub Stops : List ℕ → Type 0
Stops [] = Unit {0}
Stops (octet ∷ octets) = octet ≡ 32

pub first_word : (octet : ℕ) (word rest : List ℕ) → is_free_of 32 (octet ∷ word) ≡ true → Stops rest → words_of ((octet ∷ word) ++ rest) ≡ (octet ∷ word) ∷ words_of rest
unfolding joined
first_word octet word [] e h = rw (joined-pieces octet word [] e, append-nil word) refl
first_word octet word (space ∷ rest) e h = rw h (rw (joined-pieces octet word (32 ∷ rest) e, append-nil word) refl)

pub stops_at : (text : List ℕ) (n : ℕ) → (n < length text → get_or text n 0 ≡ 32) → Stops (drop n text)
stops_at [] n h = at_end n
  where
    at_end : (n : ℕ) → Stops (drop n [])
    at_end zero = tt
    at_end (suc n) = tt
stops_at (a ∷ text) zero h = h (omega arith)
stops_at (a ∷ text) (suc n) h = stops_at text n (λ lt. h (omega (arith, lt)))

pub word_split : (text : List ℕ) (n : ℕ) → 0 < n → n ≤ length text → is_free_of 32 (take n text) ≡ true → (n < length text → get_or text n 0 ≡ 32)
    → words_of text ≡ take n text ∷ words_of (drop n text)
word_split [] n lt le e h = absurd (omega arith)
word_split (a ∷ text) zero lt le e h = absurd (omega arith)
word_split (a ∷ text) (suc n) lt le e h =
    ap (λ t. words_of (a ∷ t)) (sym (take-append-drop n text)) ∙ first_word a (take n text) (drop n text) e (stops_at (a ∷ text) (suc n) h)

pub found_word : (all text : List ℕ) (n : ℕ) → words_of all ≡ words_of text → (n ≡ 0 → ⊥) → n ≤ length text → is_free_of 32 (take n text) ≡ true → (n < length text → get_or text n 0 ≡ 32)
    → words_of all ≡ take n text ∷ words_of (take (length text - n) (drop n text))
found_word all text n same some le e h =
    let rest : take (length text - n) (drop n text) ≡ drop n text = grind (arith, common_steps, length-drop n text) in
    same ∙ word_split text n (omega (arith, some)) le e h ∙ ap (λ (t : List ℕ). take n text ∷ words_of t) (sym rest)

not_true : (b : Bool) → (b ≡ true → ⊥) → b ≡ false
not_true true h = absurd (h refl)
not_true false h = refl

-- octets before the first of a kind
none_is : (end : ℕ) (text : List ℕ) (n : ℕ) → n ≤ length text → ((k : ℕ) → 0 ≤ k → k < n → Passes (is_byte end) text k → ⊥) → is_free_of end (take n text) ≡ true
none_is end [] zero le h = refl
none_is end [] (suc n) le h = absurd (omega (arith, le))
none_is end (a ∷ text) zero le h = refl
none_is end (a ∷ text) (suc n) le h =
    let first : eqb a end ≡ false = not_true (eqb a end) (h 0 (omega arith) (omega arith)) in
    rw first (none_is end text n (omega (arith, le)) (λ k low lt passes. h (suc k) (omega arith) (omega (arith, lt)) passes))

-- the position of the first of a kind
pub first_at : (end : ℕ) (text : List ℕ) (n : ℕ) → IsFirstByte (is_byte end) text (Some n) → (n < length text) × (is_free_of end (take n text) ≡ true) × (get_or text n 0 ≡ end)
first_at end text n h =
    (h.0.high, none_is end text n (omega (arith, h.0.high)) h.0.before, eqb-true (get_or text n 0) end h.1)

-- a text without any
pub none_at : (end : ℕ) (text : List ℕ) → IsFirstByte (is_byte end) text None → is_free_of end (take (length text) text) ≡ true
none_at end text h = none_is end text (length text) (omega arith) h
