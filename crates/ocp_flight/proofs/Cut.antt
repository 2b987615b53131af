-- Pieces are cut from octets.
use Rattle.std.proofs.Common.{◌≡◌, ◌≤◌, ◌<◌, ◌+◌, ℕ, zero, suc, Bool, false, true, cond, List, [], ◌∷◌, ◌++◌, length, take, drop, get_or, refl, sym, ap, ◌∙◌, arith}
use Rattle.std.specs.Prelude.{Some, nat_lt, nat_le, slice_get}
use Rattle.std.specs.Option.{option_map}
use Rattle.std.proofs.lemmas.Bool.Decides.{nat_tests}
use Rattle.std.proofs.lemmas.List.{take-append-le, length-take-le, length-drop, drop-drop}
use Rattle.std.proofs.Math.Seq.{take-length, drop-append-le}
use Rattle.ocp_flight.specs.Pieces.{TapeContents, pieces, total, extent, has_room}

-- ---- lengths

pub total-more : (ns : List ℕ) (n : ℕ) → total (ns ++ n ∷ []) ≡ total ns + n
total-more [] n = omega arith
total-more (m ∷ ns) n = omega (arith, total-more ns n)

-- the lengths up to one, and that one, are no more than all
pub total-within : (ns : List ℕ) (i : ℕ) → i < length ns → total (take i ns) + get_or ns i 0 ≤ total ns
total-within [] i h = absurd (omega (arith, h))
total-within (n ∷ ns) zero h = omega arith
total-within (n ∷ ns) (suc i) h = omega (arith, total-within ns i (omega (arith, h)))

pub total-take : (ns : List ℕ) (i : ℕ) → total (take i ns) ≤ total ns
total-take [] zero = omega arith
total-take [] (suc i) = omega arith
total-take (n ∷ ns) zero = omega arith
total-take (n ∷ ns) (suc i) = omega (arith, total-take ns i)

-- ---- pieces

rest : (n k : ℕ) (xs : List ℕ) → n + k ≡ length xs → k ≡ length (drop n xs)
rest n k xs is = omega (arith, is, length-drop n xs)

pub length-pieces : (ns xs : List ℕ) → length (pieces ns xs) ≡ length ns
length-pieces [] xs = refl
length-pieces (n ∷ ns) xs = omega (arith, length-pieces ns (drop n xs))

pub extent-pieces : (ns xs : List ℕ) → total ns ≡ length xs → extent (pieces ns xs) ≡ length xs
extent-pieces [] xs is = is
extent-pieces (n ∷ ns) xs is =
    let within : n ≤ length xs = omega (arith, is) in
    omega (arith, is, length-take-le n xs within, rest n (total ns) xs is, extent-pieces ns (drop n xs) (rest n (total ns) xs is))

pub pieces-more : (ns xs p : List ℕ) → total ns ≡ length xs → pieces (ns ++ length p ∷ []) (xs ++ p) ≡ pieces ns xs ++ p ∷ []
pieces-more [] [] p is = ap (λ q. q ∷ []) (take-length p)
pieces-more [] (x ∷ xs) p is = absurd (omega (arith, is))
pieces-more (n ∷ ns) xs p is =
    let within : n ≤ length xs = omega (arith, is) in
    ap (λ q. q ∷ pieces (ns ++ length p ∷ []) (drop n (xs ++ p))) (take-append-le n xs p within)
    ∙ ap (λ ys. take n xs ∷ pieces (ns ++ length p ∷ []) ys) (drop-append-le n xs p within)
    ∙ ap (λ ps. take n xs ∷ ps) (pieces-more ns (drop n xs) p (rest n (total ns) xs is))

-- the lengths are those of the pieces
pub lengths-at : (ns xs : List ℕ) (i : ℕ) → total ns ≡ length xs → slice_get ns i ≡ option_map length (slice_get (pieces ns xs) i)
lengths-at [] xs i is = refl
lengths-at (n ∷ ns) xs zero is = ap Some (sym (length-take-le n xs (omega (arith, is))))
lengths-at (n ∷ ns) xs (suc i) is = lengths-at ns (drop n xs) i (rest n (total ns) xs is)

-- a piece is found after the lengths of those before it
pub piece-at : (ns xs : List ℕ) (i : ℕ) → i < length ns → get_or (pieces ns xs) i [] ≡ take (get_or ns i 0) (drop (total (take i ns)) xs)
piece-at [] xs i h = absurd (omega (arith, h))
piece-at (n ∷ ns) xs zero h = refl
piece-at (n ∷ ns) xs (suc i) h =
    piece-at ns (drop n xs) i (omega (arith, h))
    ∙ ap (take (get_or ns i 0)) (drop-drop (total (take i ns)) n xs)

pub length-piece : (ns xs : List ℕ) (i : ℕ) → total ns ≡ length xs → i < length ns → length (get_or (pieces ns xs) i []) ≡ get_or ns i 0
length-piece ns xs i is h =
    let within = total-within ns i h in
    ap length (piece-at ns xs i h)
    ∙ length-take-le (get_or ns i 0) (drop (total (take i ns)) xs) (omega (arith, is, within, length-drop (total (take i ns)) xs))

-- ---- room

and-true : (a b : Bool) → cond a b false ≡ true → (a ≡ true) × (b ≡ true)
and-true true b is = (refl, is)
and-true false b is = cc

less-than : (n m : ℕ) → nat_lt n m ≡ true → n < m
less-than n m is = grind (arith, nat_tests)

at-most : (n m : ℕ) → nat_le n m ≡ true → n ≤ m
at-most n m is = grind (arith, nat_tests)

pub most-of-room : (t : TapeContents) (n : ℕ) → has_room t n ≡ true → length t.pieces < t.most
most-of-room t n is = less-than (length t.pieces) t.most (and-true (nat_lt (length t.pieces) t.most) (nat_le (extent t.pieces + n) t.room) is).0

pub octets-of-room : (t : TapeContents) (n : ℕ) → has_room t n ≡ true → extent t.pieces + n ≤ t.room
octets-of-room t n is = at-most (extent t.pieces + n) t.room (and-true (nat_lt (length t.pieces) t.most) (nat_le (extent t.pieces + n) t.room) is).1
