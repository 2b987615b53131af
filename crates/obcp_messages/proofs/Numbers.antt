-- Numbers one after the other.
use Rattle.std.proofs.Common.{◌≡◌, ℕ, suc, ◌+◌, ◌*◌, List, [], ◌∷◌, ◌++◌, drop, sym, ap, ◌∙◌, arith}
use Rattle.std.proofs.lemmas.List.{drop-drop, append_assoc}
use Rattle.byteorder.specs.Endian.{big_number}
use Rattle.obcp_messages.specs.Fields.{numbers}

-- one more number has been read, whatever follows
pub numbers_more : (words octets : List ℕ) (i left all : ℕ) (whole : List ℕ) → left ≡ suc all →
    words ++ numbers 8 left (drop (8 * i) octets) ≡ whole →
    (words ++ big_number 8 (drop (8 * i) octets) ∷ []) ++ numbers 8 all (drop (8 * (i + 1)) octets) ≡ whole
numbers_more words octets i left all whole e so_far =
    let next : drop 8 (drop (8 * i) octets) ≡ drop (8 * (i + 1)) octets = drop-drop 8 (8 * i) octets ∙ ap (λ n. drop n octets) (omega arith) in
    let split : words ++ numbers 8 (suc all) (drop (8 * i) octets) ≡ whole = rw e at so_far in
    append_assoc words (big_number 8 (drop (8 * i) octets) ∷ []) (numbers 8 all (drop (8 * (i + 1)) octets))
    ∙ ap (λ rest. words ++ big_number 8 (drop (8 * i) octets) ∷ numbers 8 all rest) (sym next) ∙ split
