-- What is known of words of the stack.
use Rattle.std.specs.Prelude.{◌≡◌, ◌≤◌, ◌<◌, ℕ, ◌+◌, nat_lt, nat_le, if◌then◌else◌, List, [], ◌∷◌, slice_index_or, Option, Some, None, Ok}
use Rattle.ocp_regions.specs.Memory.{Octets, number_in_memory}
use Rattle.ocp_check.specs.declared.word.Word.{Word}
use Rattle.ocp_check.specs.Mirror.Ranges.{IsIn}
use Rattle.ocp_check.specs.Mirror.Forms.{IsForm}

-- the word is in the stack, and holds what is known of it
abbrev pub IsWord : Option Word → (ℕ → ℕ) → Octets → Type 0
IsWord None bases m = Unit {0}
IsWord (Some w) bases m =
    (v : ℕ) × (number_in_memory m w.address 8 ≡ Ok v) × (w.address + 8 ≤ 0x1000_1000)
    × IsIn w.known v × IsForm w.form bases v

pub record AreWords (words : List (Option Word)) (bases : ℕ → ℕ) (m : Octets) : Type 0 where
  pub each : (k : ℕ) → k < 8 → IsWord (slice_index_or words k None) bases m

-- nothing is known of any word
abbrev pub no_words : List (Option Word)
no_words = None ∷ None ∷ None ∷ None ∷ None ∷ None ∷ None ∷ None ∷ []

-- from an address on each word of the stack is as it was
abbrev pub IsSameFrom : ℕ → Octets → Octets → Type 0
IsSameFrom first old new =
    (q : ℕ) → first ≤ q → q + 8 ≤ 0x1000_1000 →
    number_in_memory new q 8 ≡ number_in_memory old q 8

abbrev pub greater : ℕ → ℕ → ℕ
greater a b = if nat_lt a b then b else a

-- a word from an address on
abbrev pub word_above : ℕ → Option Word → Option Word
word_above floor None = None
word_above floor (Some w) = if nat_le floor w.address then Some w else None
