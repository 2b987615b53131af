-- An image is that of one list of instructions, or has one fault at one slot.
use Rattle.std.proofs.Common.{◌≡◌, ◌*◌, ◌<◌, ℕ, suc, List, [], ◌∷◌, ◌++◌, refl, sym, ap, ◌∙◌, subst, arith, length, length-append, length-drop, take, drop, append_assoc, take-append-drop}
use Rattle.std.specs.Prelude.{◌%◌}
use Rattle.std.specs.List.{All}
use Rattle.std.proofs.Math.Seq.{drop-append_seam}
use Rattle.std.proofs.lemmas.List.{append-nil, take-append-le, drop-append-le}
use Rattle.bpf_types.specs.declared.line.Line.{Line}
use Rattle.bpf_types.specs.declared.line.Line.TheVariants as line
use Rattle.bpf_types.specs.Line.{spelling, IsLine, WritesFramePointer}
use Rattle.bpf_decode.specs.declared.fault.DecodeFault.{DecodeFault}
use Rattle.bpf_decode.specs.Faults.{IsFirst}
use Rattle.bpf_decode.specs.Images.{IsImageOf, HasFaultAt, NoneWritesFramePointer, image_of}
use Rattle.bpf_decode.proofs.FirstFault.{one_first}
use Rattle.bpf_decode.proofs.Only.{unique, no_fault}

some_octets : (l : Line) → 0 < length (spelling l)
some_octets (line.LoadWide dst value) = omega arith
some_octets _ = omega arith

first_of : (P : Line → Type 0) (l : Line) (ls : List Line) → All P (l ∷ ls) → P l
first_of P l ls h = h 0 l (omega arith)

others_of : (P : Line → Type 0) (l : Line) (ls : List Line) → All P (l ∷ ls) → All P ls
others_of P l ls h = λ k d lt. h (suc k) d (omega arith)

cancel : (a x y : List ℕ) → a ++ x ≡ a ++ y → x ≡ y
cancel a x y e = sym (drop-append_seam a x) ∙ ap (λ (t : List ℕ). drop (length a) t) e ∙ drop-append_seam a y

-- if the instructions a come first, b are a and what the rest is
pub record Continues (a b : List Line) (rest : List ℕ) : Type 0 where
  pub more : List Line
  pub lines : b ≡ a ++ more
  pub ranges : All IsLine more
  pub octets : rest ≡ image_of more

continues : (a b : List Line) (rest : List ℕ) → All IsLine a → All IsLine b → image_of a ++ rest ≡ image_of b → Continues a b rest
continues [] b rest ha hb e = record { more = b; lines = refl; ranges = hb; octets = e }
continues (l ∷ a) [] rest ha hb e = absurd (omega (arith, some_octets l, ap length e, length-append (spelling l ++ image_of a) rest, length-append (spelling l) (image_of a)))
continues (l ∷ a) (m ∷ b) rest ha hb e =
    let whole : spelling l ++ (image_of a ++ rest) ≡ spelling m ++ image_of b = sym (append_assoc (spelling l) (image_of a) rest) ∙ e in
    let same : l ≡ m = unique (spelling m ++ image_of b) l m (first_of IsLine l a ha, image_of a ++ rest, sym whole) (first_of IsLine m b hb, image_of b, refl) in
    let shifted : spelling l ++ (image_of a ++ rest) ≡ spelling l ++ image_of b = whole ∙ ap (λ (k : Line). spelling k ++ image_of b) (sym same) in
    let c = continues a b rest (others_of IsLine l a ha) (others_of IsLine m b hb) (cancel (spelling l) (image_of a ++ rest) (image_of b) shifted) in
    record { more = c.more; lines = (let is = c.lines in cc); ranges = c.ranges; octets = c.octets }

no_more : (more : List Line) → [] ≡ image_of more → more ≡ []
no_more [] e = refl
no_more (l ∷ more) e = absurd (omega (arith, some_octets l, ap length e, length-append (spelling l) (image_of more)))

pub one_image : (image : List ℕ) (a b : List Line) → IsImageOf image a → IsImageOf image b → a ≡ b
one_image image a b ha hb =
    let c = continues a b [] ha.ranges hb.ranges (append-nil (image_of a) ∙ sym ha.octets ∙ hb.octets) in
    sym (c.lines ∙ ap (λ (t : List Line). a ++ t) (no_more c.more c.octets) ∙ append-nil a)

lines_after : (P : Line → Type 0) (a more : List Line) → All P (a ++ more) → All P more
lines_after P [] more h = h
lines_after P (l ∷ a) more h = lines_after P a more (others_of P l (a ++ more) h)

-- no instruction that may be loaded is where a fault is
no_instruction : (rest tail : List ℕ) (f : DecodeFault) (more : List Line) → rest ≡ image_of more → 0 < length rest → All IsLine more → NoneWritesFramePointer more → IsFirst f (rest ++ tail) → ⊥
no_instruction rest tail f [] e some ranges permitted first = absurd (omega (arith, some, ap length e))
no_instruction rest tail f (l ∷ more) e some ranges permitted first =
    permitted 0 l (omega arith) (no_fault (rest ++ tail) f l first (ranges 0 l (omega arith), image_of more ++ tail, ap (λ (t : List ℕ). t ++ tail) e ∙ append_assoc (spelling l) (image_of more) tail))

-- an image of instructions that may be loaded has no fault
pub no_lines : (image : List ℕ) (lines : List Line) (slot : ℕ) (f : DecodeFault) → IsImageOf image lines → NoneWritesFramePointer lines → HasFaultAt image slot f → ⊥
no_lines image lines slot f is permitted h =
    let c = continues h.lines lines (drop (8 * slot) image) h.before.ranges is.ranges
    (ap (λ (t : List ℕ). t ++ drop (8 * slot) image) (sym h.before.octets) ∙ take-append-drop (8 * slot) image ∙ is.octets) in
    no_instruction (drop (8 * slot) image) [] f c.more c.octets (omega (arith, h.within, length-drop (8 * slot) image)) c.ranges
    (lines_after (λ k. ¬ WritesFramePointer k) h.lines c.more (subst NoneWritesFramePointer c.lines permitted)) (subst (IsFirst f) (sym (append-nil (drop (8 * slot) image))) h.first)

not_before : (image : List ℕ) (s t : ℕ) (f g : DecodeFault) → HasFaultAt image s f → HasFaultAt image t g → s < t → ⊥
not_before image s t f g h k lt =
    let front = take (8 * t) image in
    let tail = drop (8 * t) image in
    let whole : image ≡ front ++ tail = sym (take-append-drop (8 * t) image) in
    let long : 8 * s < length front = omega (arith, lt, h.within, ap length whole, length-append front tail, length-drop (8 * t) image) in
    let head : image_of h.lines ≡ take (8 * s) front = sym h.before.octets ∙ ap (λ (o : List ℕ). take (8 * s) o) whole ∙ take-append-le (8 * s) front tail (omega (arith, long)) in
    let rest : drop (8 * s) image ≡ drop (8 * s) front ++ tail = ap (λ (o : List ℕ). drop (8 * s) o) whole ∙ drop-append-le (8 * s) front tail (omega (arith, long)) in
    let c = continues h.lines k.lines (drop (8 * s) front) h.before.ranges k.before.ranges
    (ap (λ (o : List ℕ). o ++ drop (8 * s) front) head ∙ take-append-drop (8 * s) front ∙ k.before.octets) in
    no_instruction (drop (8 * s) front) tail f c.more c.octets (omega (arith, long, length-drop (8 * s) front)) c.ranges
    (lines_after (λ l. ¬ WritesFramePointer l) h.lines c.more (subst NoneWritesFramePointer c.lines k.permitted)) (subst (IsFirst f) rest h.first)

same_slot : (s t : ℕ) → (s < t → ⊥) → (t < s → ⊥) → s ≡ t
same_slot s t p q = omega (arith, p, q)

pub one_fault : (image : List ℕ) (s t : ℕ) (f g : DecodeFault) → HasFaultAt image s f → HasFaultAt image t g → (f ≡ g) × (s ≡ t)
one_fault image s t f g h k =
    let same : s ≡ t = same_slot s t (not_before image s t f g h k) (not_before image t s g f k h) in
    (one_first (drop (8 * t) image) f g (subst (λ (n : ℕ). IsFirst f (drop (8 * n) image)) same h.first) k.first, same)

slots_of : (l : Line) → length (spelling l) % 8 ≡ 0
slots_of (line.LoadWide dst value) = omega arith
slots_of _ = omega arith

whole_slots : (lines : List Line) → length (image_of lines) % 8 ≡ 0
whole_slots [] = omega arith
whole_slots (l ∷ lines) = omega (arith, slots_of l, whole_slots lines, length-append (spelling l) (image_of lines))

pub image_slots : (image : List ℕ) (lines : List Line) → IsImageOf image lines → length image % 8 ≡ 0
image_slots image lines h = ap (λ (o : List ℕ). length o % 8) h.octets ∙ whole_slots lines
