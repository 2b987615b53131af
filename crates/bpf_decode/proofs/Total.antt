-- Octets are decoded as an instruction that may be loaded, or as their first fault.
use Rattle.std.proofs.Common.{◌≡◌, ℕ, ◌%◌, ◌/◌, ◌<◌, ◌≤◌, ◌⊎◌, inl, inr, ℤ, List, [], ◌∷◌, ◌++◌, length, Option, Some, None, Result, Ok, Err, Bool, true, false, refl, sym, ◌∙◌, subst, arith}
use Rattle.std.specs.Prelude.{slice_index, FitsSigned, ◌^◌}
use mir.Val.{hbits}
use Rattle.std.specs.Int.{Width, w16, w32}
use Rattle.std.specs.Int.Signed.{mag}
use Rattle.std.proofs.lemmas.Bool.{cases_eq}
use Rattle.std.proofs.lemmas.Option.{same_Some}
use Rattle.bpf_types.specs.declared.line.Line.{Line}
use Rattle.bpf_types.specs.declared.line.Line.TheVariants as line
use Rattle.bpf_types.specs.declared.line.Operand.{Operand}
use Rattle.bpf_types.specs.declared.line.Operand.TheVariants.{Immediate, Register}
use Rattle.bpf_types.specs.Line.{spelling, IsLine, IsOperand}
use Rattle.bpf_decode.specs.declared.fault.DecodeFault.{DecodeFault}
use Rattle.bpf_decode.specs.declared.fault.DecodeFault.TheVariants as fault
use Rattle.bpf_decode.specs.Mirror.Codes.{is_opcode}
use Rattle.bpf_decode.specs.Mirror.Decoding.{raw_fields, line_at}
use Rattle.bpf_decode.specs.Decoding.{BeginsWith, HasRow}
use Rattle.bpf_decode.specs.Faults.{AreOctets, Decodes}
use Rattle.bpf_decode.proofs.Decode.{none_found}
use Rattle.bpf_decode.proofs.Known.{known, no_row}
use Rattle.bpf_decode.proofs.Only.{found_at, decide}

-- a fact holds or not
abbrev Or : Type 0 → Type 0
Or P = P ⊎ (¬ P)

at_most : (a b : ℕ) → Or (a ≤ b)
at_most a b = elim (split a b) [ inl h ↦ inl h | inr h ↦ inr (λ k. omega (arith, h, k)) ]
  where
    split : (a b : ℕ) → (a ≤ b) ⊎ (b < a)
    split a b = grind arith

less : (a b : ℕ) → Or (a < b)
less a b = elim (split a b) [ inl h ↦ inl h | inr h ↦ inr (λ k. omega (arith, h, k)) ]
  where
    split : (a b : ℕ) → (a < b) ⊎ (b ≤ a)
    split a b = grind arith

both : {A B : Type 0} → Or A → Or B → Or (A × B)
both (inl a) (inl b) = inl (a, b)
both (inl a) (inr n) = inr (λ h. n h.1)
both (inr n) b = inr (λ h. n h.0)

three : {A B C : Type 0} → Or A → Or B → Or C → Or (A × B × C)
three (inl a) (inl b) (inl c) = inl (a, b, c)
three (inl a) (inl b) (inr n) = inr (λ h. n h.2)
three (inl a) (inr n) c = inr (λ h. n h.1)
three (inr n) b c = inr (λ h. n h.0)

either : {A B : Type 0} → Or A → Or B → Or (A ⊎ B)
either (inl a) b = inl (inl a)
either (inr n) (inl b) = inl (inr b)
either (inr n) (inr m) = inr (λ h. elim h [ inl a ↦ n a | inr b ↦ m b ])

fits : (w : Width) (z : ℤ) → Or (FitsSigned w z)
fits w z = elim (less (mag z) (2 ^ hbits w)) [ inl h ↦ inl (record { sfits = h }) | inr n ↦ inr (λ k. n k.sfits) ]

operand_fits : (o : Operand) → Or (IsOperand o)
operand_fits (Immediate imm) = fits w32 imm
operand_fits (Register src) = at_most src 10

line_fits : (l : Line) → Or (IsLine l)
line_fits (line.Arithmetic width operation dst operand) = both (at_most dst 10) (operand_fits operand)
line_fits (line.Negate width dst) = at_most dst 10
line_fits (line.MoveExtended extension dst src) = both (at_most dst 10) (at_most src 10)
line_fits (line.ByteOrder order width dst) = at_most dst 10
line_fits (line.Jump distance) = fits w16 distance
line_fits (line.LongJump distance) = fits w32 distance
line_fits (line.JumpIf width comparison dst operand distance) = three (at_most dst 10) (operand_fits operand) (fits w16 distance)
line_fits (line.Call number) = fits w32 number
line_fits (line.CallLocal distance) = fits w32 distance
line_fits line.Exit = inl tt
line_fits (line.LoadWide dst value) = both (at_most dst 10) (less value (2 ^ 64))
line_fits (line.Load size dst base offset) = three (at_most dst 10) (at_most base 10) (fits w16 offset)
line_fits (line.LoadExtended size dst base offset) = three (at_most dst 10) (at_most base 10) (fits w16 offset)
line_fits (line.StoreImmediate size base offset value) = three (at_most base 10) (fits w16 offset) (fits w32 value)
line_fits (line.Store size base offset src) = three (at_most base 10) (fits w16 offset) (at_most src 10)

abbrev IsPrefix : List ℕ → List ℕ → Type 0
IsPrefix a b = (more : List ℕ) × (b ≡ a ++ more)

prefix_or : (a b : List ℕ) → Or (IsPrefix a b)
prefix_or [] b = inl (b, refl)
prefix_or (x ∷ a) [] = inr (λ h. let e = h.1 in absurd cc)
prefix_or (x ∷ a) (y ∷ b) = elim (cases_eq x y) [
  | inl same ↦ elim (prefix_or a b) [
    | inl h ↦ inl (h.0, (let e = h.1 in cc))
    | inr n ↦ inr (λ h. n (h.0, (let e = h.1 in cc)))
  ]
  | inr other ↦ inr (λ h. other (let e = h.1 in cc))
]

begins_or : (octets : List ℕ) (l : Line) → Or (BeginsWith octets l)
begins_or octets l = elim (line_fits l) [
  | inr n ↦ inr (λ h. n h.0)
  | inl range ↦ elim (prefix_or (spelling l) octets) [
    | inl h ↦ inl (range, h.0, h.1)
    | inr n ↦ inr (λ h. n (h.1, h.2))
  ]
]

-- the octets begin with an instruction, or with none
spelled_by : (octets : List ℕ) (o : Option Line) → line_at (raw_fields octets) octets ≡ o → ((l : Line) × BeginsWith octets l) ⊎ ((l : Line) → ¬ BeginsWith octets l)
spelled_by octets None e = inr (λ l b. none_found octets e l b)
spelled_by octets (Some l) e = elim (begins_or octets l) [
  | inl b ↦ inl (l, b)
  | inr n ↦ inr (λ m b. n (subst (BeginsWith octets) (same_Some m l (sym (found_at octets m b) ∙ e)) b))
]

known_by : (n : ℕ) (b : Bool) → is_opcode n ≡ b → n < 256 → Or (¬ HasRow n)
known_by n true e small = inr (λ none. none (known n small e))
known_by n false e small = inl (λ row. absurd (no_row n e row))

-- what the octets are decoded as
abbrev Decoding : List ℕ → Type 0
Decoding octets = (result : Result Line DecodeFault) × Decodes octets result

pub total : (octets : List ℕ) → slice_index octets 0 < 256 → Decoding octets
total octets small = elim (both (cases_eq (slice_index octets 0) 0x18) (less (length octets) 16)) [
  | inl cut ↦ (Err fault.CutWide, cut)
  | inr whole ↦ elim (known_by (slice_index octets 0) (is_opcode (slice_index octets 0)) refl small) [
    | inl unknown ↦ (Err fault.UnknownOpcode, (whole, unknown))
    | inr opcode ↦ elim (either (less 10 (slice_index octets 1 % 16)) (less 10 (slice_index octets 1 / 16))) [
      | inl bad ↦ (Err fault.BadRegister, (whole, opcode, bad))
      | inr registers ↦ elim (spelled_by octets (line_at (raw_fields octets) octets) refl) [
        | inr none ↦ (Err fault.ReservedField, (whole, opcode, registers, none))
        | inl found ↦ elim (decide found.0) [
          | inl writes ↦ (Err fault.WritesFramePointer, (whole, opcode, registers, (λ none. none found.0 found.1), (found.0, found.1, writes)))
          | inr permitted ↦ (Ok found.0, (found.1, permitted))
        ]
      ]
    ]
  ]
]

small_first : (octets : List ℕ) → AreOctets octets → slice_index octets 0 < 256
small_first [] h = omega arith
small_first (o ∷ octets) h = h 0 o (omega arith)

pub of_octets : (octets : List ℕ) → AreOctets octets → Decoding octets
of_octets octets h = total octets (small_first octets h)
