-- Words of the stack after stores, and after local calls.
use Rattle.std.proofs.Common.{◌≡◌, ◌≤◌, ◌<◌, inl, inr, ℕ, ◌+◌, ◌%◌, ◌^◌, Bool, true, false, List, [], ◌∷◌, length, get_or, set, Option, Some, None, Result, Ok, refl, sym, ap, subst, ◌∙◌, arith}
use Rattle.std.specs.Prelude.{IfSome, nat_le, if◌then◌else◌}
use Rattle.std.proofs.lemmas.Bool.Decides.{nat_tests}
use Rattle.std.proofs.lemmas.List.{get_or-set_same, get_or-set_other}
use Rattle.ocp_regions.specs.Memory.{Octets, number_in_memory}
use Rattle.ocp_regions.specs.declared.fault.AccessFault.{AccessFault}
use Rattle.ocp_check.specs.declared.form.Form.{Form}
use Rattle.ocp_check.specs.declared.word.Word.{Word}
use Rattle.ocp_check.specs.declared.certificate.Node.{Node}
use Rattle.ocp_check.specs.Mirror.Ranges.{IsIn, IsThere}
use Rattle.ocp_check.specs.Mirror.Forms.{IsForm}
use Rattle.ocp_check.specs.Mirror.Words.{IsWord, AreWords, no_words, IsSameFrom, greater, word_above}
use Rattle.ocp_check.specs.Mirror.Callers.{Caller, AreKept, word_at, words_after_return}
use Rattle.ocp_check.proofs.Each.{same_or_not, eight}

pub unknown : (bases : ℕ → ℕ) (m : Octets) → AreWords no_words bases m
unknown bases m = record { each = eight _ tt tt tt tt tt tt tt tt }

pub put_word : (words : List (Option Word)) (bases : ℕ → ℕ) (m : Octets) (k : ℕ) (word : Option Word) → length words ≡ 8 → k < 8 → AreWords words bases m → IsWord word bases m → AreWords (set words k word) bases m
put_word words bases m k word l d a i = record {
  each = λ j h. elim (same_or_not j k) [
    | inl e ↦ subst (λ n. IsWord (get_or (set words k word) n None) bases m) (sym e) (subst (λ o. IsWord o bases m) (sym (get_or-set_same words k word None (omega (arith, l, d)))) i)
    | inr n ↦ subst (λ o. IsWord o bases m) (sym (get_or-set_other words k j word None n)) (a.each j h)
  ];
}

-- a word that is the same in another memory
pub word_kept : (w : Word) (bases : ℕ → ℕ) (old new : Octets) → number_in_memory new w.address 8 ≡ number_in_memory old w.address 8 → IsWord (Some w) bases old → IsWord (Some w) bases new
word_kept w bases old new e h = (h.0, e ∙ h.1, h.2, h.3, h.4)

if_above : (b : Bool) (w : Word) (floor : ℕ) (bases : ℕ → ℕ) (old new : Octets) → nat_le floor w.address ≡ b → IsSameFrom floor old new → IsWord (Some w) bases old → IsWord (if b then Some w else None) bases new
if_above true w floor bases old new t s h = word_kept w bases old new (s w.address (grind (arith, nat_tests)) h.2) h
if_above false w floor bases old new t s h = tt

-- a word from an address on from which the stack is the same
pub word_returns : (o : Option Word) (floor : ℕ) (bases : ℕ → ℕ) (old new : Octets) → IsSameFrom floor old new → IsWord o bases old → IsWord (word_above floor o) bases new
word_returns None floor bases old new s h = tt
word_returns (Some w) floor bases old new s h = if_above (nat_le floor w.address) w floor bases old new refl s h

pub words_return : (node : Node) (floor : ℕ) (bases : ℕ → ℕ) (old new : Octets) → IsSameFrom floor old new → AreWords node.words bases old → AreWords (words_after_return node floor) bases new
words_return node floor bases old new s a = record {
  each = eight _ (at 0 (omega arith)) (at 1 (omega arith)) (at 2 (omega arith)) (at 3 (omega arith)) (at 4 (omega arith)) (at 5 (omega arith)) (at 6 (omega arith)) (at 7 (omega arith));
}
  where
    at : (k : ℕ) → k < 8 → IsWord (word_above floor (word_at node k)) bases new
    at k h = word_returns (word_at node k) floor bases old new s (a.each k h)

-- the stack is the same from a later address on
pub same_later : (first next : ℕ) (old new : Octets) → first ≤ next → IsSameFrom first old new → IsSameFrom next old new
same_later first next old new l s q h e = s q (omega (arith, l, h)) e

pub kept_later : (first next : ℕ) (m : Octets) (callers : List Caller) → first ≤ next → AreKept first m callers → AreKept next m callers
kept_later first next m [] l k = tt
kept_later first next m (c ∷ callers) l k = (same_later first next c.memory m l k.0, k.1)

pub first_le : (a b : ℕ) → a ≤ greater a b
first_le a b = grind (arith, nat_tests)

pub second_le : (a b : ℕ) → b ≤ greater a b
second_le a b = grind (arith, nat_tests)

-- what was the same before a local call, and what the call left
pub kept_returns : (first floor : ℕ) (old new : Octets) (callers : List Caller) → IsSameFrom floor old new → AreKept first old callers → AreKept (greater first floor) new callers
kept_returns first floor old new [] s k = tt
kept_returns first floor old new (c ∷ callers) s k = (
  λ q h e. s q (let l = second_le first floor in omega (arith, l, h)) e ∙ k.0 q (let l = first_le first floor in omega (arith, l, h)) e,
  k.1,
)

-- the same after a store that leaves the stack from an address on
pub kept_stored : (first next : ℕ) (old new : Octets) (callers : List Caller) → ((from : Octets) → IsSameFrom first from old → IsSameFrom next from new) → AreKept first old callers → AreKept next new callers
kept_stored first next old new [] s k = tt
kept_stored first next old new (c ∷ callers) s k = (s c.memory k.0, k.1)

-- a store ends before 2 ^ 64
pub ends_before : (q n : ℕ) → IsThere true q n → q + n < 2 ^ 64
ends_before q n h = grind arith

-- what a store writes of a number is of the number's form
pub form_stored : (o : Option Form) (bases : ℕ → ℕ) (v : ℕ) → IsForm o bases v → IsForm o bases (v % 2 ^ 64)
form_stored None bases v h = tt
form_stored (Some f) bases v h = omega (arith, h)

-- a word in the stack
pub stack_word : (q : ℕ) → IsThere true q 8 → q < 0x1000_1000 → q + 8 ≤ 0x1000_1000
stack_word q h l = grind arith

ok_same : (a b : ℕ) (r : Result ℕ AccessFault) → r ≡ Ok a → r ≡ Ok b → a ≡ b
ok_same a b r e f = cc

-- a load that reads a word
pub word_is_read : (w : Word) (bases : ℕ → ℕ) (m : Octets) (q v : ℕ) → w.address ≡ q → IsWord (Some w) bases m → number_in_memory m q 8 ≡ Ok v → IsIn w.known v × IsForm w.form bases v
word_is_read w bases m q v e h r =
    let same : h.0 ≡ v = ok_same h.0 v (number_in_memory m q 8) (sym (ap (λ a. number_in_memory m a 8) e) ∙ h.1) r in
    (subst (IsIn w.known) same h.3, subst (IsForm w.form bases) same h.4)

pub if_word : (o : Option Word) (P Q : Word → Type 0) → ((w : Word) → P w → Q w) → IfSome o P → IfSome o Q
if_word (Some w) P Q f h = f w h
if_word None P Q f h = tt
