-- Items of one size, read and written one after the other.
use Rattle.std.proofs.Common.{◌≡◌, ℕ, suc, ◌+◌, ◌-◌, ◌*◌, ◌<◌, ◌≤◌, List, [], ◌∷◌, ◌++◌, length, get_or, take, drop, refl, sym, ap, ◌∙◌, arith, append_assoc, append-nil, drop-drop}
use Rattle.std.specs.Prelude.{slice_index}
use Rattle.std.specs.List.{flat_map}
use Rattle.std.proofs.lemmas.List.{take_more, flat_map_more}
use Rattle.std.proofs.lemmas.Slice.{between_is, take-put_mid}
use borrow.Rule.Slice.PartMut.{put_mid}
use Rattle.byteorder.specs.Endian.{big_number, IsRead}
use Rattle.byteorder.specs.Numbers.{big_from-take}
use Rattle.bpf_step.specs.declared.frame.Frame.{Frame}
use Rattle.ocp_saved.specs.Reading.{items_in, words_in}

-- ---- words

-- each word is the number at its place
same_words : (ws octets : List ℕ) → ((k : ℕ) → k < length ws → slice_index ws k ≡ big_number 8 (drop (8 * k) octets)) → ws ≡ words_in (length ws) octets
unfolding items_in
same_words [] octets h = refl
same_words (w ∷ ws) octets h =
    let first : w ≡ big_number 8 octets = h 0 (omega arith) in
    let rest : ws ≡ words_in (length ws) (drop 8 octets) = same_words ws (drop 8 octets) (λ k lt.
    let next : 8 * suc k ≡ 8 + 8 * k = omega arith in
    h (suc k) (omega arith) ∙ ap (λ (n : ℕ). big_number 8 (drop n octets)) next ∙ ap (big_number 8) (sym (drop-drop (8 * k) 8 octets))) in
    joined w (big_number 8 octets) ws (words_in (length ws) (drop 8 octets)) first rest
  where
    joined : (a b : ℕ) (xs ys : List ℕ) → a ≡ b → xs ≡ ys → a ∷ xs ≡ b ∷ ys
    joined a b xs ys e f = cc

-- a number in the front part of octets
in_front : (octets : List ℕ) (n k : ℕ) → k < n → big_number 8 (drop (8 * k) (take (8 * n) octets)) ≡ big_number 8 (drop (8 * k) octets)
in_front octets n k lt =
    ap (big_number 8) (sym (between_is octets (8 * k) (8 * n)))
    ∙ big_from-take 0 8 (8 * n - 8 * k) (drop (8 * k) octets) (omega arith)

pub words_read : (ws octets part : List ℕ) (n : ℕ) → length ws ≡ n → part ≡ take (8 * n) octets → IsRead big_number 8 part ws → ws ≡ words_in n octets
words_read ws octets part n e p h =
    same_words ws octets (λ k lt. h k lt ∙ ap (λ (l : List ℕ). big_number 8 (drop (8 * k) l)) p ∙ in_front octets n k (omega (arith, lt, e)))
    ∙ ap (λ (m : ℕ). words_in m octets) e

-- ---- items, one after another

module _ {X : Type 0} (read : List ℕ → X) (size : ℕ) where
  pub items_go_on : (front : List X) (count i : ℕ) (rest after : List ℕ) (total : List X) → i < count → after ≡ drop size rest → front ++ items_in read size (count - i) rest ≡ total →
      (front ++ read rest ∷ []) ++ items_in read size (count - (i + 1)) after ≡ total
  unfolding items_in
  items_go_on front count i rest after total lt e h =
      let k : count - i ≡ suc (count - (i + 1)) = omega arith in
      append_assoc front (read rest ∷ []) (items_in read size (count - (i + 1)) after)
      ∙ ap (λ (l : List ℕ). front ++ (read rest ∷ items_in read size (count - (i + 1)) l)) e
      ∙ ap (λ (n : ℕ). front ++ items_in read size n rest) (sym k) ∙ h

  pub items_done : (front : List X) (count i : ℕ) (rest : List ℕ) (total : List X) → count ≤ i → front ++ items_in read size (count - i) rest ≡ total → front ≡ total
  unfolding items_in
  items_done front count i rest total le h =
      let k : count - i ≡ 0 = omega arith in
      sym (append-nil front) ∙ ap (λ (n : ℕ). front ++ items_in read size n rest) (sym k) ∙ h

-- one more item is written
module _ {X : Type 0} (write : X → List ℕ) (size : ℕ) where
  pub items_written : (items : List X) (out part : List ℕ) (d : X) (i at k n : ℕ) → i < length items → n ≡ at + size → at ≤ length out → length part ≡ size → part ≡ write (get_or items i d) →
      take at out ≡ flat_map write (take i items) → take n (put_mid at k out part) ≡ flat_map write (take (i + 1) items)
  items_written items out part d i at k n lt en near len put h =
      take-put_mid at k out part n (omega (arith, en, len)) (omega (arith, near))
      ∙ ap (λ (l : List ℕ). l ++ part) h
      ∙ ap (λ (l : List ℕ). flat_map write (take i items) ++ l) put
      ∙ flat_map_more write [] (take i items) (get_or items i d)
      ∙ ap (flat_map write) (sym (take_more items i d lt))

pub same_frame : (a b c d e p a' b' c' d' e' p' : ℕ) → a ≡ a' → b ≡ b' → c ≡ c' → d ≡ d' → e ≡ e' → p ≡ p' →
    ◌≡◌ {A = Frame} (record { r6 = a; r7 = b; r8 = c; r9 = d; r10 = e; place = p }) (record { r6 = a'; r7 = b'; r8 = c'; r9 = d'; r10 = e'; place = p' })
same_frame a b c d e p a' b' c' d' e' p' ea eb ec ed ee ep = cc
