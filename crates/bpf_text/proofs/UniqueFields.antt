-- A field of an instruction's text is read in one way.
use Rattle.std.proofs.Common.{◌≡◌, ◌<◌, ◌+◌, ℕ, ℤ, pos, ◌-ℤ◌, List, [], ◌∷◌, length, get_or, Option, Some, None, true, false, sym, ap, ◌∙◌, subst, arith, inl, inr, ◌⊎◌}
use Rattle.bpf_types.specs.declared.line.Operand.{Operand}
use Rattle.bpf_types.specs.declared.line.Operand.TheVariants.{Immediate, Register}
use Rattle.std.specs.Str.Parse.{AllDigits}
use Rattle.bpf_text.specs.Number.{IsInBase, IsNumeral}
use Rattle.bpf_text.specs.Tokens.{is_word}
use Rattle.bpf_text.specs.Fields.{IsRegister, IsInteger, IsImmediate, IsSecond, IsDistance, IsTarget, IsName, as_signed}
use Rattle.bpf_text.proofs.FieldLemmas.{register_text, letter_no_numeral, sign_no_numeral}

-- no decimal numeral begins with 0x
no_x : (octets digits : List ℕ) (n : ℕ) → IsInBase 10 octets n → octets ≡ 48 ∷ 120 ∷ digits → ⊥
no_x octets digits n h e =
    let all = subst (AllDigits 10) e h.0.1 in
    omega (arith, all.1.0)

pub one_numeral : (t : List ℕ) (m n : ℕ) → IsNumeral t m → IsNumeral t n → m ≡ n
one_numeral t m n (inl h) (inl k) = h.1 ∙ sym k.1
one_numeral t m n (inl h) (inr k) = absurd (no_x t k.0 m h k.1)
one_numeral t m n (inr h) (inl k) = absurd (no_x t h.0 n k h.1)
one_numeral t m n (inr (a, e, h)) (inr (b, f, k)) = let same : b ≡ a = cc in let q = subst (λ (u : List ℕ). IsInBase 16 u n) same k in h.1 ∙ sym q.1

pub one_register : (t : List ℕ) (m n : ℕ) → IsRegister t m → IsRegister t n → m ≡ n
one_register t m n h k = by (register_text t m h) (register_text t n k)
  where
    by : ((length t ≡ 2) × (get_or t 0 0 ≡ 114) × (get_or t 1 0 ≡ 48 + m) × (m < 10)) ⊎ ((length t ≡ 3) × (get_or t 0 0 ≡ 114) × (get_or t 1 0 ≡ 49) × (get_or t 2 0 ≡ 48) × (m ≡ 10))
        → ((length t ≡ 2) × (get_or t 0 0 ≡ 114) × (get_or t 1 0 ≡ 48 + n) × (n < 10)) ⊎ ((length t ≡ 3) × (get_or t 0 0 ≡ 114) × (get_or t 1 0 ≡ 49) × (get_or t 2 0 ≡ 48) × (n ≡ 10)) → m ≡ n
    by (inl a) (inl b) = omega arith
    by (inl a) (inr b) = omega arith
    by (inr a) (inl b) = omega arith
    by (inr a) (inr b) = omega arith

pub one_integer : (t : List ℕ) (y z : ℤ) → IsInteger t y → IsInteger t z → y ≡ z
one_integer t y z (inl (m, h, e)) (inl (n, k, f)) = e ∙ ap pos (one_numeral t m n h k) ∙ sym f
one_integer t y z (inl (m, h, e)) (inr (ds, n, is, k, f)) = absurd (sign_no_numeral 45 ds m (omega arith) (subst (λ (u : List ℕ). IsNumeral u m) is h))
one_integer t y z (inr (ds, m, is, h, e)) (inl (n, k, f)) = absurd (sign_no_numeral 45 ds n (omega arith) (subst (λ (u : List ℕ). IsNumeral u n) is k))
one_integer t y z (inr (ds, m, is, h, e)) (inr (es, n, js, k, f)) =
    let same : es ≡ ds = cc in
    e ∙ ap (λ (x : ℕ). pos 0 -ℤ pos x) (one_numeral ds m n h (subst (λ (u : List ℕ). IsNumeral u n) same k)) ∙ sym f

pub one_immediate : (t : List ℕ) (y z : ℤ) → IsImmediate t y → IsImmediate t z → y ≡ z
one_immediate t y z h k = h.2 ∙ ap as_signed (one_integer t h.0 k.0 h.1 k.1) ∙ sym k.2

-- no numeral begins with the letter of a register, and neither does a sign
register_no_integer : (t : List ℕ) (n : ℕ) (z : ℤ) → IsRegister t n → IsInteger t z → ⊥
register_no_integer t n z (inl h) (inl k) = letter_no_numeral 114 ((48 + n) ∷ []) k.0 (omega arith) (subst (λ (u : List ℕ). IsNumeral u k.0) h.1 k.1)
register_no_integer t n z (inr h) (inl k) = letter_no_numeral 114 (49 ∷ 48 ∷ []) k.0 (omega arith) (subst (λ (u : List ℕ). IsNumeral u k.0) h.1 k.1)
register_no_integer t n z (inl h) (inr k) = absurd (omega (arith, ap (λ (u : List ℕ). get_or u 0 0) (sym h.1 ∙ k.2)))
register_no_integer t n z (inr h) (inr k) = absurd (omega (arith, ap (λ (u : List ℕ). get_or u 0 0) (sym h.1 ∙ k.2)))

pub register_or_immediate : (t : List ℕ) (n : ℕ) (z : ℤ) → IsRegister t n → IsImmediate t z → ⊥
register_or_immediate t n z h k = register_no_integer t n k.0 h k.1

pub one_second : (t : List ℕ) (x y : Operand) → IsSecond t x → IsSecond t y → x ≡ y
one_second t (Immediate x) (Immediate y) h k = ap Immediate (one_immediate t x y h k)
one_second t (Immediate x) (Register y) h k = absurd (register_or_immediate t y x k h)
one_second t (Register x) (Immediate y) h k = absurd (register_or_immediate t x y h k)
one_second t (Register x) (Register y) h k = ap Register (one_register t x y h k)

pub one_distance : (t : List ℕ) (y z : ℤ) → IsDistance t y → IsDistance t z → y ≡ z
one_distance t y z (ds, m, h, inl e) (es, n, k, inl f) = let a = e.0 in let b = f.0 in let same : es ≡ ds = cc in e.1 ∙ ap pos (one_numeral ds m n h (subst (λ (u : List ℕ). IsNumeral u n) same k)) ∙ sym f.1
one_distance t y z (ds, m, h, inl e) (es, n, k, inr f) = absurd (omega (arith, ap (λ (u : List ℕ). get_or u 0 0) (sym e.0 ∙ f.0)))
one_distance t y z (ds, m, h, inr e) (es, n, k, inl f) = absurd (omega (arith, ap (λ (u : List ℕ). get_or u 0 0) (sym e.0 ∙ f.0)))
one_distance t y z (ds, m, h, inr e) (es, n, k, inr f) = let a = e.0 in let b = f.0 in let same : es ≡ ds = cc in e.1 ∙ ap (λ (x : ℕ). pos 0 -ℤ pos x) (one_numeral ds m n h (subst (λ (u : List ℕ). IsNumeral u n) same k)) ∙ sym f.1

-- a name has no sign before it
pub name_or_distance : (t : List ℕ) (z : ℤ) → IsName t → IsDistance t z → ⊥
name_or_distance [] z h k = h
name_or_distance (o ∷ os) z h (ds, m, k, inl e) = let q : o ≡ 43 = ap (λ (u : List ℕ). get_or u 0 0) e.0 in let bad : true ≡ false = sym h.0.0 ∙ ap is_word q in absurd cc
name_or_distance (o ∷ os) z h (ds, m, k, inr e) = let q : o ≡ 45 = ap (λ (u : List ℕ). get_or u 0 0) e.0 in let bad : true ≡ false = sym h.0.0 ∙ ap is_word q in absurd cc

pub one_target : (t : List ℕ) (v w : ℤ × Option (List ℕ)) → IsTarget t v → IsTarget t w → v ≡ w
one_target t (y, None) (z, None) h k = let p = one_distance t y z h k in λ i. (p i, None)
one_target t (y, None) (z, Some b) h k = absurd (name_or_distance t y k.0 h)
one_target t (y, Some a) (z, None) h k = absurd (name_or_distance t z h.0 k)
one_target t (y, Some a) (z, Some b) h k = let p = h.2 ∙ sym k.2 in let q = h.1 ∙ sym k.1 in λ i. (p i, Some (q i))
