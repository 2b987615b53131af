-- Places modulo 2^32, and the lengths between them.
use Rattle.std.proofs.Common.{◌≡◌, ◌≤◌, ◌<◌, ◌+◌, ◌^◌, ℕ, zero, suc, List, [], ◌∷◌, ◌++◌, length, take, get_or, refl, sym, ap, ◌∙◌, arith}
use Rattle.std.specs.Prelude.{◌%◌, slice_get}
use Rattle.std.specs.Option.{option_map}
use Rattle.ocp_flight.specs.Pieces.{total}
use Rattle.ocp_flight.specs.Mirror.Cut.{distance, lengths_of}
use Rattle.ocp_flight.proofs.Cut.{total-take}

pub no_distance : (a : ℕ) → distance a a ≡ 0
no_distance a = omega arith

pub distances : (a b c : ℕ) → distance a b + distance b c < 2 ^ 32 → distance a c ≡ distance a b + distance b c
distances a b c few = omega (arith, few)

pub distance-on : (a n : ℕ) → n < 2 ^ 32 → distance a ((a + n) % 2 ^ 32) ≡ n
distance-on a n few = omega (arith, few)

pub length-lengths_of : (start : ℕ) (ends : List ℕ) → length (lengths_of start ends) ≡ length ends
length-lengths_of start [] = refl
length-lengths_of start (end ∷ ends) = omega (arith, length-lengths_of end ends)

-- the octets before a piece are the distance to its beginning
pub before_piece : (start : ℕ) (ends : List ℕ) (i : ℕ) → i ≤ length ends → total (lengths_of start ends) < 2 ^ 32 → total (take i (lengths_of start ends)) ≡ distance start (get_or (start ∷ ends) i 0)
before_piece start ends zero within few = sym (no_distance start)
before_piece start [] (suc i) within few = absurd (omega (arith, within))
before_piece start (end ∷ ends) (suc i) within few =
    let later : total (take i (lengths_of end ends)) ≡ distance end (get_or (end ∷ ends) i 0) = before_piece end ends i (omega (arith, within)) (omega (arith, few)) in
    let most : total (take i (lengths_of end ends)) ≤ total (lengths_of end ends) = total-take (lengths_of end ends) i in
    let both : distance start end + distance end (get_or (end ∷ ends) i 0) < 2 ^ 32 = omega (arith, later, most, few) in
    ap (λ n. distance start end + n) later ∙ sym (distances start end (get_or (end ∷ ends) i 0) both)

-- the length of a piece
pub length_of_piece : (start : ℕ) (ends : List ℕ) (i : ℕ) → i < length ends → get_or (lengths_of start ends) i 0 ≡ distance (get_or (start ∷ ends) i 0) (get_or ends i 0)
length_of_piece start [] i within = absurd (omega (arith, within))
length_of_piece start (end ∷ ends) zero within = refl
length_of_piece start (end ∷ ends) (suc i) within = length_of_piece end ends i (omega (arith, within))

pub lengths_found : (start : ℕ) (ends : List ℕ) (i : ℕ) → slice_get (lengths_of start ends) i ≡ option_map (distance (get_or (start ∷ ends) i 0)) (slice_get ends i)
lengths_found start [] i = refl
lengths_found start (end ∷ ends) zero = refl
lengths_found start (end ∷ ends) (suc i) = lengths_found end ends i

-- one more piece ends at this distance
pub lengths-more : (start : ℕ) (ends : List ℕ) (end : ℕ) → lengths_of start (ends ++ end ∷ []) ≡ lengths_of start ends ++ distance (get_or (start ∷ ends) (length ends) 0) end ∷ []
lengths-more start [] end = refl
lengths-more start (e ∷ ends) end = ap (λ ns. distance start e ∷ ns) (lengths-more e ends end)
