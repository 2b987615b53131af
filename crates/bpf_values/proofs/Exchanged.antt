-- Byte order instructions read the low octets of a number in their order.
use Rattle.std.proofs.Common.{◌≡◌, ℕ, ◌%◌, ◌^◌, ◌<◌, ◌∙◌, refl, ap, arith, List, [], ◌∷◌}
use Rattle.std.specs.Prelude.{reverse}
use Rattle.std.specs.Int.{w16, w32, w64, from_be_bytes, to_le_bytes, swap_bytes}
use Rattle.bpf_types.specs.declared.line.Order.{Order}
use Rattle.bpf_types.specs.declared.line.Order.TheVariants.{Little, Big, Swap}
use Rattle.bpf_types.specs.declared.line.SwapWidth.{SwapWidth}
use Rattle.bpf_types.specs.declared.line.SwapWidth.TheVariants.{Bits16, Bits32, Bits64}
use Rattle.ocp_regions.specs.Memory.{number_of, low_octets}
use Rattle.bpf_values.specs.Value.{byte_order_result, octets_kept, read_in}

-- the octets of a number, each by its own division
two : (a b a' b' : ℕ) → a ≡ a' → b ≡ b' → a ∷ b ∷ [] ≡ a' ∷ b' ∷ []
two a b a' b' e f = cc

four : (a b c d a' b' c' d' : ℕ) (r r' : List ℕ) → a ≡ a' → b ≡ b' → c ≡ c' → d ≡ d' → r ≡ r' → a ∷ b ∷ c ∷ d ∷ r ≡ a' ∷ b' ∷ c' ∷ d' ∷ r'
four a b c d a' b' c' d' r r' e f g h k = cc

octets_2 : (a : ℕ) → to_le_bytes w16 (a % 2 ^ 16) ≡ low_octets 2 a
octets_2 a = two _ _ _ _ (omega arith) (omega arith)

octets_4 : (a : ℕ) → to_le_bytes w32 (a % 2 ^ 32) ≡ low_octets 4 a
octets_4 a = four _ _ _ _ _ _ _ _ _ _ (omega arith) (omega arith) (omega arith) (omega arith) refl

octets_8 : (a : ℕ) → to_le_bytes w64 a ≡ low_octets 8 a
octets_8 a = four _ _ _ _ _ _ _ _ _ _ (omega arith) (omega arith) (omega arith) (omega arith)
    (four _ _ _ _ _ _ _ _ _ _ (omega arith) (omega arith) (omega arith) (omega arith) refl)

backward_2 : (a b : ℕ) → from_be_bytes w16 (a ∷ b ∷ []) ≡ number_of (reverse (a ∷ b ∷ []))
backward_2 a b = omega arith

backward_4 : (a b c d : ℕ) → from_be_bytes w32 (a ∷ b ∷ c ∷ d ∷ []) ≡ number_of (reverse (a ∷ b ∷ c ∷ d ∷ []))
backward_4 a b c d = omega arith

backward_8 : (a b c d e f g h : ℕ) → from_be_bytes w64 (a ∷ b ∷ c ∷ d ∷ e ∷ f ∷ g ∷ h ∷ []) ≡ number_of (reverse (a ∷ b ∷ c ∷ d ∷ e ∷ f ∷ g ∷ h ∷ []))
backward_8 a b c d e f g h = omega arith

exchange : SwapWidth → ℕ → ℕ
exchange Bits16 a = swap_bytes w16 (a % 2 ^ 16)
exchange Bits32 a = swap_bytes w32 (a % 2 ^ 32)
exchange Bits64 a = swap_bytes w64 a

read_backward : (kept : SwapWidth) (a : ℕ) → exchange kept a ≡ number_of (reverse (low_octets (octets_kept kept) a))
unfolding exchange
read_backward Bits16 a = backward_2 _ _ ∙ ap (λ xs. number_of (reverse xs)) (octets_2 a)
read_backward Bits32 a = backward_4 _ _ _ _ ∙ ap (λ xs. number_of (reverse xs)) (octets_4 a)
read_backward Bits64 a = backward_8 _ _ _ _ _ _ _ _ ∙ ap (λ xs. number_of (reverse xs)) (octets_8 a)

pub read_in_order : (order : Order) (kept : SwapWidth) (a : ℕ) → a < 2 ^ 64 → byte_order_result order kept a ≡ read_in order (low_octets (octets_kept kept) a)
unfolding exchange
read_in_order Little Bits16 a h = omega arith
read_in_order Little Bits32 a h = omega arith
read_in_order Little Bits64 a h = omega arith
read_in_order Big Bits16 a h = read_backward Bits16 a
read_in_order Big Bits32 a h = read_backward Bits32 a
read_in_order Big Bits64 a h = read_backward Bits64 a
read_in_order Swap Bits16 a h = read_backward Bits16 a
read_in_order Swap Bits32 a h = read_backward Bits32 a
read_in_order Swap Bits64 a h = read_backward Bits64 a
