-- Fields of an instruction's text.
use Rattle.std.proofs.Common.{◌≡◌, ◌<◌, ◌≤◌, ◌+◌, ◌-◌, ℕ, List, [], ◌∷◌, length, get_or, take, drop, ◌^◌, Option, Some, None, Ok, Err, FitsSigned, refl, sym, ap, ◌∙◌, subst, arith, inl, inr, ◌⊎◌, ℤ, pos, negsuc, ◌-ℤ◌}
use Rattle.std.proofs.lemmas.Int.{ints}
use Rattle.bpf_text.proofs.Scanning.{whole_drop}
use Rattle.std.specs.Char.{digit_value}
use Rattle.bpf_text.specs.Number.{IsNumeral}
use Rattle.std.specs.Option.{ok_or}
use Rattle.std.specs.Prelude.{◌≢◌, IfSome, IfNone}
use Rattle.std.specs.Int.{w32}
use Rattle.bpf_types.specs.declared.line.Operand.{Operand}
use Rattle.bpf_types.specs.declared.line.Operand.TheVariants.{Immediate, Register}
use Rattle.bpf_types.specs.Line.{IsOperand, extension_width, extension_bits}
use Rattle.bpf_types.specs.declared.line.Width.{Width}
use Rattle.bpf_types.specs.declared.line.Width.TheVariants.{W32, W64}
use Rattle.bpf_types.specs.declared.line.Extension.{Extension}
use Rattle.bpf_types.specs.declared.line.Extension.TheVariants as extension
use Rattle.bpf_text.specs.Fields.{IsRegister, IsInteger, IsImmediate, IsDistance, IsSecond, IsTarget, IsName, as_signed}
use Rattle.bpf_text.specs.Judged.{Gives}
use Rattle.bpf_text.specs.Mirror.Gives.{IsWide, bits_in, IsWidth, HasExtension}
use Rattle.bpf_text.specs.declared.line.LineFault.{LineFault}
use Rattle.bpf_text.specs.declared.line.LineFault.TheVariants.{Syntax, Range}

pub register_text : (token : List ℕ) (n : ℕ) → IsRegister token n
    → ((length token ≡ 2) × (get_or token 0 0 ≡ 114) × (get_or token 1 0 ≡ 48 + n) × (n < 10)) ⊎ ((length token ≡ 3) × (get_or token 0 0 ≡ 114) × (get_or token 1 0 ≡ 49) × (get_or token 2 0 ≡ 48) × (n ≡ 10))
register_text token n (inl h) = inl (ap length h.1, ap (λ (t : List ℕ). get_or t 0 0) h.1, ap (λ (t : List ℕ). get_or t 1 0) h.1, h.0)
register_text token n (inr h) = inr (ap length h.1, ap (λ (t : List ℕ). get_or t 0 0) h.1, ap (λ (t : List ℕ). get_or t 1 0) h.1, ap (λ (t : List ℕ). get_or t 2 0) h.1, h.0)

pub two_octets : (t : List ℕ) (a : ℕ) → length t ≡ 2 → get_or t 0 0 ≡ a → t ≡ a ∷ get_or t 1 0 ∷ []
two_octets [] a le e = absurd (omega arith)
two_octets (x ∷ []) a le e = absurd (omega arith)
two_octets (x ∷ y ∷ []) a le e = ap (λ (o : ℕ). o ∷ y ∷ []) e
two_octets (x ∷ y ∷ z ∷ t) a le e = absurd (omega arith)

pub front_octet : (t : List ℕ) (a : ℕ) → 1 ≤ length t → get_or t 0 0 ≡ a → t ≡ a ∷ drop 1 t
front_octet [] a le e = absurd (omega arith)
front_octet (x ∷ t) a le e = ap (λ (o : ℕ). o ∷ t) e

-- a letter begins no numeral, and neither does a sign
pub letter_no_numeral : (o : ℕ) (digits : List ℕ) (n : ℕ) → 10 ≤ digit_value o → IsNumeral (o ∷ digits) n → ⊥
letter_no_numeral o digits n le (inl h) = omega (arith, h.0.1.0)
letter_no_numeral o digits n le (inr h) = let same : o ≡ 48 = cc in let d : digit_value o ≡ 0 = ap digit_value same in omega arith

pub sign_no_numeral : (o : ℕ) (digits : List ℕ) (n : ℕ) → 36 ≤ digit_value o → IsNumeral (o ∷ digits) n → ⊥
sign_no_numeral o digits n le (inl h) = omega (arith, h.0.1.0)
sign_no_numeral o digits n le (inr h) = let same : o ≡ 48 = cc in let d : digit_value o ≡ 0 = ap digit_value same in omega arith

pub minus_integer : (token digits : List ℕ) (z : ℤ) → token ≡ 45 ∷ digits → IsInteger token z → (n : ℕ) × IsNumeral digits n × (z ≡ pos 0 -ℤ pos n)
minus_integer token digits z e (inl h) = absurd (sign_no_numeral 45 digits h.0 (omega arith) (subst (λ (t : List ℕ). IsNumeral t h.0) e h.1))
minus_integer token digits z e (inr h) = let same : h.0 ≡ digits = cc in (h.1, subst (λ (t : List ℕ). IsNumeral t h.1) same h.3, h.4)

pub plain_integer : (token : List ℕ) (z : ℤ) → (get_or token 0 0 ≡ 45 → ⊥) → IsInteger token z → (n : ℕ) × IsNumeral token n × (z ≡ pos n)
plain_integer token z other (inl h) = h
plain_integer token z other (inr h) = absurd (other (ap (λ (t : List ℕ). get_or t 0 0) h.2))

pub no_minus : (token digits : List ℕ) → token ≡ 45 ∷ digits → ((n : ℕ) → IsNumeral digits n → ⊥) → (z : ℤ) → IsImmediate token z → ⊥
no_minus token digits e none z h = let p = minus_integer token digits h.0 e h.1 in none p.0 p.1

pub no_plain : (token : List ℕ) → (get_or token 0 0 ≡ 45 → ⊥) → ((n : ℕ) → IsNumeral token n → ⊥) → (z : ℤ) → IsImmediate token z → ⊥
no_plain token other none z h = let p = plain_integer token h.0 other h.1 in none p.0 p.1

pub front_rest : (t : List ℕ) (a : ℕ) → 1 ≤ length t → get_or t 0 0 ≡ a → t ≡ a ∷ take (length t - 1) (drop 1 t)
front_rest t a le e = front_octet t a le e ∙ ap (λ (r : List ℕ). a ∷ r) (sym (whole_drop t 1))

pub minus_read : (token digits : List ℕ) (n : ℕ) → token ≡ 45 ∷ digits → IsNumeral digits n → IsImmediate token (as_signed (pos 0 -ℤ pos n))
minus_read token digits n e h = (pos 0 -ℤ pos n, inr (digits, n, e, h, refl), refl)

pub plus_distance : (token digits : List ℕ) (n : ℕ) → token ≡ 43 ∷ digits → IsNumeral digits n → IsDistance token (pos n)
plus_distance token digits n e h = (digits, n, h, inl (e, refl))

pub minus_distance : (token digits : List ℕ) (n : ℕ) → token ≡ 45 ∷ digits → IsNumeral digits n → IsDistance token (pos 0 -ℤ pos n)
minus_distance token digits n e h = (digits, n, h, inr (e, refl))

pub no_distance : (token digits : List ℕ) (o : ℕ) → token ≡ o ∷ digits → ((n : ℕ) → IsNumeral digits n → ⊥) → (z : ℤ) → IsDistance token z → ⊥
no_distance token digits o e none z h = none h.1 (subst (λ (t : List ℕ). IsNumeral t h.1) (same h.3) h.2)
  where
    same : ((token ≡ 43 ∷ h.0) × (z ≡ pos h.1)) ⊎ ((token ≡ 45 ∷ h.0) × (z ≡ pos 0 -ℤ pos h.1)) → h.0 ≡ digits
    same (inl p) = let q = p.0 in cc
    same (inr p) = let q = p.0 in cc

pub no_integer : (t : List ℕ) → length t < 1 → (z : ℤ) → IsInteger t z → ⊥
no_integer [] lt z (inl h) = elim h.1 [ inl k ↦ absurd (omega (arith, k.0.0)) | inr k ↦ let q = k.1 in absurd cc ]
no_integer [] lt z (inr h) = let q = h.2 in absurd cc
no_integer (x ∷ t) lt z h = absurd (omega arith)

pub register_in_range : (token : List ℕ) (n : ℕ) → IsRegister token n → n ≤ 10
register_in_range token n (inl h) = let lt = h.0 in omega arith
register_in_range token n (inr h) = let e = h.0 in omega arith

pub second_err : (token : List ℕ) (fault : LineFault) → ((n : ℕ) → IsRegister token n → ⊥) → {V : Type 0} → (f : V → ℤ) → Gives f (IsImmediate token) (FitsSigned w32) (Err fault) → {U : Type 0} → (g : U → Operand) → Gives g (IsSecond token) IsOperand (Err fault)
second_err token Syntax none f h g = by
  where
    by : (o : Operand) → ¬ IsSecond token o
    by (Immediate z) k = h z k
    by (Register n) k = none n k
second_err token Range none f h g = (Immediate h.0, h.1, h.2)

pub target_err : (token : List ℕ) (Fits : ℤ → Type 0) (fault : LineFault) → ¬ IsName token → {V : Type 0} → (f : V → ℤ) → Gives f (IsDistance token) Fits (Err fault)
    → {U : Type 0} → (g : U → ℤ × Option (List ℕ)) → Gives g (IsTarget token) (λ w. Fits w.0) (Err fault)
target_err token Fits Syntax none f h g = by
  where
    by : (w : ℤ × Option (List ℕ)) → ¬ IsTarget token w
    by (z, None) k = h z k
    by (z, Some name) k = none k.0
target_err token Fits Range none f h g = ((h.0, None), h.1, h.2)

-- a bracket is no offset
pub no_closing : (t : List ℕ) (z : ℤ) → t ≡ 93 ∷ [] → IsDistance t z → ⊥
no_closing t z e h = by h.3
  where
    by : ((t ≡ 43 ∷ h.0) × (z ≡ pos h.1)) ⊎ ((t ≡ 45 ∷ h.0) × (z ≡ pos 0 -ℤ pos h.1)) → ⊥
    by (inl k) = let p = k.0 in absurd (omega (arith, ap (λ (u : List ℕ). get_or u 0 0) (sym e ∙ p)))
    by (inr k) = let p = k.0 in absurd (omega (arith, ap (λ (u : List ℕ). get_or u 0 0) (sym e ∙ p)))

-- a number that is out of the range of 64 bits is none of those in it
big : (n : ℕ) (z : ℤ) → (n < 2 ^ 64 → ⊥) → (z ≡ pos n) ⊎ (z ≡ pos 0 -ℤ pos n) → ¬ IsWide z
big n z h e m = h (subst (λ (k : ℕ). k < 2 ^ 64) (same e m.2) m.1)
  where
    same : (z ≡ pos n) ⊎ (z ≡ pos 0 -ℤ pos n) → (z ≡ pos m.0) ⊎ (z ≡ pos 0 -ℤ pos m.0) → m.0 ≡ n
    same (inl a) (inl b) = omega (arith, ints)
    same (inl a) (inr b) = omega (arith, ints)
    same (inr a) (inl b) = omega (arith, ints)
    same (inr a) (inr b) = omega (arith, ints)

pub distance_err : (token digits : List ℕ) (o : ℕ) (fault : LineFault) → token ≡ o ∷ digits → (o ≡ 43) ⊎ (o ≡ 45) → {V : Type 0} → (f : V → ℕ) → Gives f (IsNumeral digits) (λ (n : ℕ). n < 2 ^ 64) (Err fault) → {U : Type 0} → (g : U → ℤ) → Gives g (IsDistance token) IsWide (Err fault)
distance_err token digits o Syntax e sign f h g = no_distance token digits o e h
distance_err token digits o Range e (inl p) f h g = (pos h.0, plus_distance token digits h.0 (subst (λ (x : ℕ). token ≡ x ∷ digits) p e) h.1, big h.0 (pos h.0) h.2 (inl refl))
distance_err token digits o Range e (inr p) f h g = (pos 0 -ℤ pos h.0, minus_distance token digits h.0 (subst (λ (x : ℕ). token ≡ x ∷ digits) p e) h.1, big h.0 (pos 0 -ℤ pos h.0) h.2 (inr refl))

pub minus_err : (token digits : List ℕ) (fault : LineFault) → token ≡ 45 ∷ digits → {V : Type 0} → (f : V → ℕ) → Gives f (IsNumeral digits) (λ (n : ℕ). n < 2 ^ 64) (Err fault) → {U : Type 0} → (g : U → ℤ) → Gives g (IsInteger token) IsWide (Err fault)
minus_err token digits Syntax e f h g = λ z k. let p = minus_integer token digits z e k in h p.0 p.1
minus_err token digits Range e f h g = (pos 0 -ℤ pos h.0, inr (digits, h.0, e, h.1, refl), big h.0 (pos 0 -ℤ pos h.0) h.2 (inr refl))

pub plain_err : (token : List ℕ) (fault : LineFault) → (get_or token 0 0 ≡ 45 → ⊥) → {V : Type 0} → (f : V → ℕ) → Gives f (IsNumeral token) (λ (n : ℕ). n < 2 ^ 64) (Err fault) → {U : Type 0} → (g : U → ℤ) → Gives g (IsInteger token) IsWide (Err fault)
plain_err token Syntax other f h g = λ z k. let p = plain_integer token z other k in h p.0 p.1
plain_err token Range other f h g = (pos h.0, inl (h.0, h.1, refl), big h.0 (pos h.0) h.2 (inl refl))

as_signed_wide : (z : ℤ) → FitsSigned w32 (as_signed z) → IsWide z
as_signed_wide (pos n) h = (n, grind (arith, ints), inl refl)
as_signed_wide (negsuc n) h = (n + 1, grind (arith, ints), inr (omega (arith, ints)))

pub immediate_err : (token : List ℕ) (fault : LineFault) → {V : Type 0} → (f : V → ℤ) → Gives f (IsInteger token) IsWide (Err fault) → {U : Type 0} → (g : U → ℤ) → Gives g (IsImmediate token) (FitsSigned w32) (Err fault)
immediate_err token Syntax f h g = λ z k. h k.0 k.1
immediate_err token Range f h g = (as_signed h.0, (h.0, h.1, refl), λ m. h.2 (as_signed_wide h.0 m))

-- an extension has the width of its class
bits_in_class : (w : Width) (e : Extension) (n : ℕ) → extension_width e ≡ w → extension_bits e ≡ n → bits_in w e ≡ Some n
bits_in_class w e n is same = subst (λ (v : Width). bits_in v e ≡ Some n) is (own e ∙ ap (λ (m : ℕ). Some m) same)
  where
    own : (e : Extension) → bits_in (extension_width e) e ≡ Some (extension_bits e)
    own extension.From8To32 = refl
    own extension.From16To32 = refl
    own extension.From8To64 = refl
    own extension.From16To64 = refl
    own extension.From32To64 = refl

pub extension_class : (w : Width) (e : Extension) → HasExtension w (bits_in w e) → (extension_width e ≡ w) × (bits_in w e ≡ Some (extension_bits e))
extension_class W32 extension.From8To32 h = (refl, refl)
extension_class W32 extension.From16To32 h = (refl, refl)
extension_class W32 extension.From8To64 h = absurd h
extension_class W32 extension.From16To64 h = absurd h
extension_class W32 extension.From32To64 h = absurd h
extension_class W64 extension.From8To64 h = (refl, refl)
extension_class W64 extension.From16To64 h = (refl, refl)
extension_class W64 extension.From32To64 h = (refl, refl)
extension_class W64 extension.From8To32 h = absurd h
extension_class W64 extension.From16To32 h = absurd h

-- a width is written so, or it is no width of the class
pub extension_fault : (w : Width) (token : List ℕ) (fault : LineFault) → {V : Type 0} → (f : V → ℕ) → {U : Type 0} → (g : U → Option ℕ) → Gives f (IsNumeral token) (λ n. n < 2 ^ 64) (Err fault) → (((n : ℕ) → HasExtension w (Some n) → n < 2 ^ 64)) → Gives g (IsWidth token) (HasExtension w) (Err fault)
extension_fault w token Syntax f g h small = by
  where
    by : (o : Option ℕ) → IsWidth token o → ⊥
    by None k = k
    by (Some n) k = h n k
extension_fault w token Range f g h small = (Some h.0, h.1, λ m. h.2 (small h.0 m))

pub extension_read : (w : Width) (token : List ℕ) (n : ℕ) (found : Option Extension) → IsNumeral token n → IfSome found (λ e. (extension_width e ≡ w) × (extension_bits e ≡ n)) → IfNone found ((e : Extension) → extension_width e ≡ w → extension_bits e ≢ n)
    → Gives (bits_in w) (IsWidth token) (HasExtension w) (ok_or found Range)
extension_read w token n None is some none = (Some n, is, λ h. none h.0 h.1 h.2)
extension_read w token n (Some e) is some none = let b = bits_in_class w e n some.0 some.1 in (subst (IsWidth token) (sym b) is, subst (HasExtension w) (sym b) (e, some.0, some.1))

pub few_bits : (w : Width) (n : ℕ) → HasExtension w (Some n) → n < 2 ^ 64
few_bits w n (extension.From8To32, is, same) = omega arith
few_bits w n (extension.From16To32, is, same) = omega arith
few_bits w n (extension.From8To64, is, same) = omega arith
few_bits w n (extension.From16To64, is, same) = omega arith
few_bits w n (extension.From32To64, is, same) = omega arith

pub immediate_ok : (token : List ℕ) (z y v : ℤ) → IsInteger token z → y ≡ as_signed z → FitsSigned w32 y → v ≡ y → Gives (λ (x : ℤ). x) (IsImmediate token) (FitsSigned w32) (Ok v)
immediate_ok token z y v is e fits same = ((z, is, same ∙ e), subst (FitsSigned w32) (sym same) fits)
