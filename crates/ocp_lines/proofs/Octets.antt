-- The octets that a word spells, if they are not too many.
use Rattle.std.proofs.Common.{◌≡◌, ◌≤◌, ◌<◌, ◌/◌, ℕ, List, refl, Some, None, Result, Ok, Err, true, false, length, leb, cond, Bool, arith}
use Rattle.std.specs.Result.{result_ok}
use Rattle.std.proofs.lemmas.Bool.{leb-true, leb-false}
use Rattle.hex.specs.Hex.{decode_of}
use Rattle.hex.specs.declared.error.FromHexError.{FromHexError}
use Rattle.hex.proofs.HexLemmas.{decode_of-ok}
use Rattle.ocp_lines.specs.Words.{at_most, octets_up_to}

-- a word that is not too long spells what its digits spell
pub few_octets : (most : ℕ) (word : List ℕ) → length word / 2 ≤ most → result_ok (decode_of word) ≡ octets_up_to most word
few_octets most word few = by_result (decode_of word) refl
  where
    by_size : (bytes : List ℕ) → decode_of word ≡ Ok bytes → (b : Bool) → leb (length bytes) most ≡ b → Some bytes ≡ cond b (Some bytes) None
    by_size bytes is true e = refl
    by_size bytes is false e = absurd (omega (arith, few, (decode_of-ok word bytes is).2, leb-false (length bytes) most e))

    by_result : (r : Result (List ℕ) FromHexError) → decode_of word ≡ r → result_ok r ≡ at_most most (result_ok r)
    by_result (Err e) is = refl
    by_result (Ok bytes) is = by_size bytes is (leb (length bytes) most) refl

-- a word that is too long spells none
pub many_octets : (most : ℕ) (word : List ℕ) → most < length word / 2 → None ≡ octets_up_to most word
many_octets most word many = by_result (decode_of word) refl
  where
    by_size : (bytes : List ℕ) → decode_of word ≡ Ok bytes → (b : Bool) → leb (length bytes) most ≡ b → None ≡ cond b (Some bytes) None
    by_size bytes is false e = refl
    by_size bytes is true e = absurd (omega (arith, many, (decode_of-ok word bytes is).2, leb-true (length bytes) most e))

    by_result : (r : Result (List ℕ) FromHexError) → decode_of word ≡ r → None ≡ at_most most (result_ok r)
    by_result (Err e) is = refl
    by_result (Ok bytes) is = by_size bytes is (leb (length bytes) most) refl
