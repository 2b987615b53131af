-- Error control (ECSS-E-ST-70-41C, annex B): a list of bits is a polynomial over two values, the
-- highest coefficient first. The control is the remainder of the division of the message by x^16 +
-- x^12 + x^5 + 1.
use Rattle.std.specs.Prelude.{◌≡◌, ℕ, zero, suc, ◌+◌, ◌*◌, ◌/◌, if◌then◌else◌, ◌%◌, ◌^◌, ◌==◌, Bool, true, false, List, [], ◌∷◌, ◌++◌, length, take, drop, map}

-- ---- polynomials over two values

abbrev pub plus : Bool → Bool → Bool
plus false b = b
plus true false = true
plus true true = false

-- the sum of two polynomials with the same number of coefficients
abbrev pub sum_of : List Bool → List Bool → List Bool
sum_of [] q = []
sum_of (a ∷ p) [] = []
sum_of (a ∷ p) (b ∷ q) = plus a b ∷ sum_of p q

-- 0, with n coefficients
abbrev pub zeros : ℕ → List Bool
zeros zero = []
zeros (suc n) = false ∷ zeros n

-- a coefficient times a polynomial
abbrev pub multiple : Bool → List Bool → List Bool
multiple false p = zeros (length p)
multiple true p = p

-- x^12 + x^5 + 1, with 16 coefficients
abbrev pub low : List Bool
low =
    false ∷ false ∷ false ∷ true ∷ false ∷ false ∷ false ∷ false
    ∷ false ∷ false ∷ true ∷ false ∷ false ∷ false ∷ false ∷ true ∷ []

-- x^16 + x^12 + x^5 + 1
abbrev pub generator : List Bool
generator = true ∷ low

-- a polynomial times the generator
abbrev pub product : List Bool → List Bool
product [] = zeros 16
product (b ∷ q) = sum_of (multiple b generator ++ zeros (length q)) (false ∷ product q)

-- dividend = quotient * generator + remainder, and the remainder has 16 coefficients
pub record IsRemainder (dividend remainder : List Bool) : Type 0 where
  pub quotient : List Bool
  pub size : length quotient + 16 ≡ length dividend
  pub width : length remainder ≡ 16
  pub parts : dividend ≡ sum_of (product quotient) (zeros (length quotient) ++ remainder)

-- ---- octets as bits

-- the lowest n bits of a number, the highest of them first
abbrev pub bits : ℕ → ℕ → List Bool
bits zero number = []
bits (suc n) number = (number / 2 ^ n % 2 == 1) ∷ bits n number

abbrev pub octet_bits : List ℕ → List Bool
octet_bits [] = []
octet_bits (octet ∷ octets) = bits 8 octet ++ octet_bits octets

abbrev pub inversion : List Bool → List Bool
inversion p = map (plus true) p

-- the bits of the octets, followed by 16 zeros, the first 16 of that list inverted
abbrev pub message : List ℕ → List Bool
message octets = let all = octet_bits octets ++ zeros 16 in inversion (take 16 all) ++ drop 16 all

-- the number is the error control of the octets
unfoldable pub IsErrorControl : List ℕ → ℕ → Type 0
IsErrorControl octets number = IsRemainder (message octets) (bits 16 number)

-- what long division leaves of a polynomial once its highest n coefficients are taken away
unfoldable pub remainder_of : ℕ → List Bool → List Bool
remainder_of zero p = p
remainder_of (suc n) [] = []
remainder_of (suc n) (b ∷ p) = remainder_of n (sum_of p (multiple b low ++ zeros n))

-- the number that the bits spell, the highest first
unfoldable pub number_of_bits : List Bool → ℕ
number_of_bits [] = 0
number_of_bits (b ∷ p) = (if b then 2 ^ length p else 0) + number_of_bits p

-- the error control as a function of the octets
unfoldable pub error_control : List ℕ → ℕ
error_control octets = number_of_bits (remainder_of (8 * length octets) (message octets))
