-- Digits are characters of one octet, and no sign is one.
use Rattle.std.proofs.Common.{◌≡◌, ◌<◌, ◌≤◌, ℕ, zero, suc, List, [], ◌∷◌, Bool, true, false, refl, ap, arith, length, get_or}
use Rattle.std.specs.Prelude.{IsTrue, MatchBool}
use Rattle.std.specs.List.{AllWithin, HoldsAt}
use Rattle.std.proofs.lemmas.Bool.{ne_eqb}
use Rattle.std.proofs.lemmas.Bool.Decides.{nat_tests}
use Rattle.std.specs.Char.{digit_value}
use Rattle.std.specs.Str.{IsAscii}
use Rattle.std.specs.Str.Parse.{AllDigits, without_leading_plus}

small : (octet : ℕ) → digit_value octet < 36 → octet < 128
small octet lt = grind (arith, nat_tests)

pub digits_are_ascii : (base : ℕ) (octets : List ℕ) → base ≤ 36 → AllDigits base octets → IsAscii octets
digits_are_ascii base [] le all i = omega arith
digits_are_ascii base (octet ∷ octets) le all zero = small octet (omega (arith, all.0, le))
digits_are_ascii base (octet ∷ octets) le all (suc i) = digits_are_ascii base octets le all.1 i

pub no_plus : (base : ℕ) (octets : List ℕ) → base ≤ 36 → AllDigits base octets → without_leading_plus octets ≡ octets
no_plus base [] le all = refl
no_plus base (octet ∷ octets) le all =
    rw (ne_eqb octet 43 (λ e. let d : digit_value octet ≡ digit_value 43 = ap digit_value e in omega (arith, all.0, le, d))) refl

digits_by_index : (base : ℕ) (octets : List ℕ) → ((k : ℕ) → k < length octets → digit_value (get_or octets k 0) < base) → AllDigits base octets
digits_by_index base [] each = tt
digits_by_index base (octet ∷ octets) each = (each 0 (omega arith), digits_by_index base octets (λ k lt. each (suc k) (omega (arith, lt))))

digit_at : (base : ℕ) (octets : List ℕ) → AllDigits base octets → (k : ℕ) → k < length octets → digit_value (get_or octets k 0) < base
digit_at base [] all k lt = absurd (omega (arith, lt))
digit_at base (octet ∷ octets) all zero lt = all.0
digit_at base (octet ∷ octets) all (suc k) lt = digit_at base octets all.1 k (omega (arith, lt))

-- what `all` states about a test for digits
pub told : (base : ℕ) (octets : List ℕ) (r : Bool) → MatchBool r (AllWithin (λ x. digit_value x < base) octets 0 (length octets)) ((k : ℕ) × (k < length octets) × HoldsAt (λ x. base ≤ digit_value x) octets k)
    → (IsTrue r → AllDigits base octets) × (AllDigits base octets → IsTrue r)
told base octets true all = (λ t. digits_by_index base octets (λ k lt. all k 0 (omega arith) lt), λ h. refl)
told base octets false (k, lt, at) = (λ t. absurd cc, λ h. absurd (omega (arith, digit_at base octets h k lt, at 0)))
