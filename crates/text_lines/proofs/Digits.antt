-- Pairs of hexadecimal digits.
use Rattle.std.proofs.Common.{◌≡◌, ◌+◌, ◌*◌, ◌%◌, ℕ, List, refl, Some, None, Result, Ok, Err, true, length}
use Rattle.std.specs.List.{list_all}
use Rattle.std.specs.Result.{result_ok}
use Rattle.std.proofs.lemmas.List.Sums.{list_all-from_AllPass}
use Rattle.hex.specs.Hex.{decode_of, hex_digit_value, is_hex_digit, pair_value}
use Rattle.hex.specs.declared.error.FromHexError.{FromHexError}
use Rattle.hex.proofs.HexLemmas.{decode_of-ok}

pub pair_of : (a b i v w : ℕ) → hex_digit_value a ≡ Some v → hex_digit_value b ≡ Some w → pair_value a b i ≡ Ok (v * 16 + w)
pair_of a b i v w e f = rw (e, f) refl

-- a text that spells no octets: it is no even number of digits
pub no_octets : (text : List ℕ) → (length text % 2 ≡ 0 → list_all is_hex_digit text ≡ true → ⊥) → None ≡ result_ok (decode_of text)
no_octets text h = by_result (decode_of text) refl
  where
    by_result : (r : Result (List ℕ) FromHexError) → decode_of text ≡ r → None ≡ result_ok r
    by_result (Err e) is = refl
    by_result (Ok bytes) is =
        let ok = decode_of-ok text bytes is in
        absurd (h ok.0 (list_all-from_AllPass is_hex_digit text ok.1))
