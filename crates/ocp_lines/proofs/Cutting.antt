-- A text that is cut into lines.
use Rattle.std.proofs.Common.{◌≡◌, ◌++◌, ◌<◌, ◌≤◌, ◌+◌, ◌-◌, List, [], ◌∷◌, ℕ, zero, suc, Bool, true, false, eqb, not, ◌&&◌, length, length-append, take, drop, get_or, take-append-drop, append_assoc, append-nil, length-drop, zero-add, suc-add, ◌⊎◌, inl, inr, refl, sym, ap, subst, ◌∙◌, arith}
use Rattle.std.proofs.lemmas.List.{drop-take, drop_more, length-take-le}
use Rattle.std.proofs.Math.Seq.{drop-nil}
use Rattle.text_lines.specs.Lines.{Line, Ended, Open, onto, lines_of}
use Rattle.ocp_lines.specs.Lines.{is_one_line, Begins}

-- the first octet of a line is none that ends it
one_line-cons : (c : ℕ) (p : List ℕ) → is_one_line (c ∷ p) ≡ true → (eqb c 10 ≡ false) × (is_one_line p ≡ true)
one_line-cons c p e = split (eqb c 10) refl e
  where
    split : (b : Bool) → eqb c 10 ≡ b → (not b && is_one_line p) ≡ true → (eqb c 10 ≡ false) × (is_one_line p ≡ true)
    split true h g = absurd cc
    split false h g = (h, g)

pub one_line-append : (p q : List ℕ) → is_one_line p ≡ true → is_one_line q ≡ true → is_one_line (p ++ q) ≡ true
one_line-append [] q e f = f
one_line-append (a ∷ p) q e f = let s = one_line-cons a p e in rw s.0 (one_line-append p q s.1 f)

pub ended_line : (p rest : List ℕ) → is_one_line p ≡ true → lines_of (p ++ 10 ∷ rest) ≡ Ended p ∷ lines_of rest
ended_line [] rest e = refl
ended_line (c ∷ p) rest e = let s = one_line-cons c p e in rw (s.0, ended_line p rest s.1) refl

pub open_line : (c : ℕ) (p : List ℕ) → is_one_line (c ∷ p) ≡ true → lines_of (c ∷ p) ≡ Open (c ∷ p) ∷ []
open_line c [] e = let s = one_line-cons c [] e in rw s.0 refl
open_line c (d ∷ p) e = let s = one_line-cons c (d ∷ p) e in rw (s.0, open_line d p s.1) refl

onto-begins : (c : ℕ) (ls : List Line) (n : ℕ) → Begins ls n → Begins (onto c ls) (suc n)
onto-begins c [] n h = absurd h
onto-begins c (Ended l ∷ ls) n h = omega (arith, h)
onto-begins c (Open l ∷ ls) n h = omega (arith, h)

onto-some : (c : ℕ) (ls : List Line) → Begins (onto c ls) 1
onto-some c [] = omega arith
onto-some c (Ended l ∷ ls) = omega arith
onto-some c (Open l ∷ ls) = omega arith

begins_less : (ls : List Line) (m n : ℕ) → m ≤ n → Begins ls n → Begins ls m
begins_less [] m n le h = h
begins_less (l ∷ ls) m n le h = omega (arith, le, h)

whole_begins : (c : ℕ) (p rest : List ℕ) → is_one_line (c ∷ p) ≡ true → Begins (lines_of ((c ∷ p) ++ rest)) (suc (length p))
whole_begins c [] rest e = let s = one_line-cons c [] e in rw s.0 (onto-some c (lines_of rest))
whole_begins c (d ∷ p) rest e = let s = one_line-cons c (d ∷ p) e in rw s.0 (onto-begins c (lines_of ((d ∷ p) ++ rest)) (suc (length p)) (whole_begins d p rest s.1))

-- a text that begins with octets of a line has a first line with as many
long_line : (p rest : List ℕ) (n : ℕ) → is_one_line p ≡ true → 1 ≤ n → n ≤ length p → Begins (lines_of (p ++ rest)) n
long_line [] rest n e some le = absurd (omega (arith, some, le))
long_line (c ∷ p) rest n e some le = begins_less (lines_of ((c ∷ p) ++ rest)) n (suc (length p)) (omega (arith, le)) (whole_begins c p rest e)

-- a line so far, and what is held, up to a place
held_cut : (line held more : List ℕ) (c : ℕ) → (line ++ held) ++ more ≡ (line ++ take c held) ++ (drop c held ++ more)
held_cut line held more c =
    ap (λ (h : List ℕ). (line ++ h) ++ more) (sym (take-append-drop c held)) ∙ append_assoc line (take c held ++ drop c held) more
    ∙ ap (λ (h : List ℕ). line ++ h) (append_assoc (take c held) (drop c held) more) ∙ sym (append_assoc line (take c held) (drop c held ++ more))

pub too_long_line : (line held : List ℕ) (c n : ℕ) → is_one_line line ≡ true → is_one_line (take c held) ≡ true → c ≤ length held → 1 ≤ n → n ≤ length line + c → (more : List ℕ) → Begins (lines_of ((line ++ held) ++ more)) n
too_long_line line held c n one free le some many more =
    subst (λ (t : List ℕ). Begins (lines_of t) n) (sym (held_cut line held more c))
    (long_line (line ++ take c held) (drop c held ++ more) n (one_line-append line (take c held) one free) some (omega (arith, many, length-append line (take c held), length-take-le c held le)))

drop_on : (n m : ℕ) (xs : List ℕ) → drop m (drop n xs) ≡ drop (n + m) xs
drop_on zero m xs = ap (λ (k : ℕ). drop k xs) (sym (zero-add m))
drop_on (suc n) m [] = drop-nil m ∙ sym (drop-nil (suc n + m))
drop_on (suc n) m (x ∷ xs) = drop_on n m xs ∙ ap (λ (k : ℕ). drop k (x ∷ xs)) (sym (suc-add n m))

take_on : (n m : ℕ) (xs : List ℕ) → n ≤ m → take n (take m xs) ≡ take n xs
take_on zero m xs le = refl
take_on (suc n) zero xs le = absurd (omega (arith, le))
take_on (suc n) (suc m) [] le = refl
take_on (suc n) (suc m) (x ∷ xs) le = ap (λ (t : List ℕ). x ∷ t) (take_on n m xs (omega (arith, le)))

pub held_length : (chunk : List ℕ) (start stop : ℕ) → length chunk ≡ 4096 → stop ≤ 4096 → length (take (stop - start) (drop start chunk)) ≡ stop - start
held_length chunk start stop room bound = length-take-le (stop - start) (drop start chunk) (omega (arith, length-drop start chunk, room, bound))

-- what is held, up to a place
pub held_part : (chunk : List ℕ) (start stop c : ℕ) → c ≤ stop - start → take c (take (stop - start) (drop start chunk)) ≡ take (start + c - start) (drop start chunk)
held_part chunk start stop c le = let same : c ≡ start + c - start = omega arith in take_on c (stop - start) (drop start chunk) le ∙ ap (λ (k : ℕ). take k (drop start chunk)) same

-- a line that is in no part of the chunk
pub whole_line : (line chunk : List ℕ) (first last : ℕ) → first ≡ last → line ≡ line ++ take (last - first) (drop first chunk)
whole_line line chunk first last e = let none : last - first ≡ 0 = omega (arith, e) in sym (ap (λ (n : ℕ). line ++ take n (drop first chunk)) none ∙ append-nil line)

pub few_left : (number left count : ℕ) → ((number ≡ 100000) × (left ≤ 0)) ⊎ (number ≡ 100000 → ⊥) → number ≤ 100000 → count ≤ left → 1 ≤ count → number < 100000
few_left number left count (inl h) le b some = absurd (omega (arith, h.1, b, some))
few_left number left count (inr ne) le b some = omega (arith, le, ne)

pub not_true : (b : Bool) → (b ≡ true → ⊥) → b ≡ false
not_true true h = absurd (h refl)
not_true false h = refl

-- what is held, up to its first newline and after it
pub next_held : (chunk : List ℕ) (start stop c : ℕ) → c < stop - start → stop - start ≤ length (take (stop - start) (drop start chunk)) → get_or (take (stop - start) (drop start chunk)) c 0 ≡ 10
    → take (stop - start) (drop start chunk) ≡ take c (take (stop - start) (drop start chunk)) ++ 10 ∷ take (stop - (start + (c + 1))) (drop (start + (c + 1)) chunk)
next_held chunk start stop c lt le is =
    let h = take (stop - start) (drop start chunk) in
    let m = stop - (start + (c + 1)) in
    let long : stop - start ≡ (c + 1) + m = omega (arith, lt) in
    let rest : drop (c + 1) h ≡ take m (drop (start + (c + 1)) chunk) = ap (λ (k : ℕ). drop (c + 1) (take k (drop start chunk))) long ∙ drop-take (c + 1) m (drop start chunk) ∙ ap (λ (t : List ℕ). take m t) (drop_on start (c + 1) chunk) in
    sym (take-append-drop c h) ∙ ap (λ (t : List ℕ). take c h ++ t) (drop_more h c 0 (omega (arith, lt, le)) ∙ ap (λ (o : ℕ). o ∷ drop (c + 1) h) is ∙ ap (λ (t : List ℕ). 10 ∷ t) rest)
