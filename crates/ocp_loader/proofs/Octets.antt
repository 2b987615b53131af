-- The octets of an image, and their number.
use Rattle.std.proofs.Common.{◌≡◌, ℕ, zero, suc, ◌+◌, ◌*◌, List, [], ◌∷◌, ◌++◌, length, take, drop, refl, ap, sym, ◌∙◌, arith, length-append, append_assoc}
use Rattle.bpf_types.specs.declared.line.Line.{Line}
use Rattle.bpf_types.specs.declared.line.Line.TheVariants as line
use Rattle.bpf_types.specs.declared.line.Operand.TheVariants.{Immediate, Register}
use Rattle.bpf_types.specs.Line.{is_wide, spelling}
use Rattle.bpf_decode.specs.Images.{image_of}
use Rattle.ocp_loader.specs.Image.{second_of, slots_of, by_slot}
use Rattle.ocp_loader.specs.Places.{place_of}

pub append_nil : {A : Type 0} (xs : List A) → xs ++ [] ≡ xs
append_nil [] = refl
append_nil (x ∷ xs) = ap (λ ys. x ∷ ys) (append_nil xs)

pub image_of-append : (ls ms : List Line) → image_of (ls ++ ms) ≡ image_of ls ++ image_of ms
image_of-append [] ms = refl
image_of-append (l ∷ ls) ms = ap (λ xs. spelling l ++ xs) (image_of-append ls ms) ∙ sym (append_assoc (spelling l) (image_of ls) (image_of ms))

pub spelled : (l : Line) → length (spelling l) ≡ 8 * suc (length (second_of (is_wide l)))
spelled (line.Arithmetic width operation dst (Immediate imm)) = refl
spelled (line.Arithmetic width operation dst (Register src)) = refl
spelled (line.JumpIf width comparison dst (Immediate imm) distance) = refl
spelled (line.JumpIf width comparison dst (Register src) distance) = refl
spelled (line.LoadWide dst value) = refl
spelled _ = refl

pub drop_front : {A : Type 0} (xs ys : List A) → drop (length xs) (xs ++ ys) ≡ ys
drop_front [] ys = refl
drop_front (x ∷ xs) ys = drop_front xs ys

pub drop_more : {A : Type 0} (i j : ℕ) (xs : List A) → drop j (drop i xs) ≡ drop (i + j) xs
drop_more zero j xs = let e : zero + j ≡ j = omega arith in rw e refl
drop_more (suc i) zero [] = let e : suc i + zero ≡ suc i = omega arith in rw e refl
drop_more (suc i) (suc j) [] = let e : suc i + suc j ≡ suc (i + suc j) = omega arith in rw e refl
drop_more (suc i) j (x ∷ xs) = let e : suc i + j ≡ suc (i + j) = omega arith in rw e (drop_more i j xs)

pub take_front : {A : Type 0} (xs ys : List A) → take (length xs) (xs ++ ys) ≡ xs
take_front [] ys = refl
take_front (x ∷ xs) ys = ap (λ zs. x ∷ zs) (take_front xs ys)

pub drop_all : {A : Type 0} (xs : List A) → drop (length xs) xs ≡ []
drop_all [] = refl
drop_all (x ∷ xs) = drop_all xs

pub length_image : (ls : List Line) → length (image_of ls) ≡ 8 * length (by_slot ls)
length_image [] = refl
length_image (l ∷ ls) =
    let a = length-append (spelling l) (image_of ls) in
    let b = length-append (slots_of l) (by_slot ls) in
    let c = length_image ls in
    let d = spelled l in
    omega (arith, a, b, c, d)

-- a place is counted in slots
pub place_by_slot : (ls : List Line) → place_of ls ≡ length (by_slot ls)
place_by_slot ls = let e = length_image ls in omega (arith, e)
