-- Regions of which the front or the end is zero: their copies, their comparison and their stores.
use Rattle.std.proofs.Common.{◌≡◌, ℕ, ◌+◌, ◌-◌, ◌≤◌, List, [], ◌++◌, length, min, max, take, drop, replicate, refl, sym, ap, ◌∙◌, arith}
use Rattle.std.proofs.Common.{length-drop, length-append}
use Rattle.std.proofs.Math.Seq.{length-sets, drop_at, length-take-le, take-add}
use Rattle.std.proofs.lemmas.List.{take-append-drop, take-take, take-replicate, drop-drop, drop-replicate, length-take, replicate-append-replicate, length-replicate, drop_all, append-nil, take_rest}
use Rattle.std.proofs.lemmas.List.Edits.{sets}
use Rattle.std.proofs.lemmas.Slice.{take-put_mid, drop-put_mid}
use borrow.Rule.Slice.PartMut.{put_mid}
use Rattle.ocp_regions.specs.Memory.{IsZeroBelow, IsZeroFrom}
use Rattle.ocp_regions.proofs.Numbers.{part_written}

-- fewer of the octets at the start, and fewer at the end
pub zero_below_too : (m n : ℕ) (xs : List ℕ) → IsZeroBelow n xs → m ≤ n → IsZeroBelow m xs
zero_below_too m n xs z h = (
  omega (arith, z.0, h),
  sym (take-take m n xs h) ∙ ap (take m) z.1 ∙ take-replicate m n 0 h,
)

pub zero_from_too : (m n : ℕ) (xs : List ℕ) → IsZeroFrom n xs → n ≤ m → m ≤ length xs → IsZeroFrom m xs
zero_from_too m n xs z h l =
    let on : n + (m - n) ≡ m = omega (arith, h) in
    let rest : length xs - n - (m - n) ≡ length xs - m = omega (arith, h, l) in (
      l,
      ap (λ k. drop k xs) (sym on) ∙ sym (drop-drop (m - n) n xs) ∙ ap (drop (m - n)) z.1
          ∙ drop-replicate (m - n) (length xs - n) 0 ∙ ap (λ k. replicate k 0) rest,
    )

-- what is zero as a whole
pub zero_below_all : (n : ℕ) (xs : List ℕ) → xs ≡ replicate n 0 → IsZeroBelow n xs
zero_below_all n xs e =
    let long : length xs ≡ n = ap length e ∙ length-replicate {A = ℕ} n 0 in
    (omega (arith, long), ap (take n) e ∙ take-replicate n n 0 (omega arith))

pub zero_from_all : (n : ℕ) (xs : List ℕ) → xs ≡ replicate n 0 → IsZeroFrom 0 xs
zero_from_all n xs e =
    let long : length xs ≡ n = ap length e ∙ length-replicate {A = ℕ} n 0 in
    let whole : n ≡ length xs - 0 = omega (arith, long) in
    (omega arith, e ∙ ap (λ k. replicate {A = ℕ} k 0) whole)

-- a list is its front and its end
pub same_parts : (n : ℕ) (xs ys : List ℕ) → take n xs ≡ take n ys → drop n xs ≡ drop n ys → xs ≡ ys
same_parts n xs ys e f = sym (take-append-drop n xs) ∙ ap (λ l. l ++ drop n xs) e ∙ ap (λ l. take n ys ++ l) f ∙ take-append-drop n ys

-- a part that is written over keeps the length
length_over : (a k : ℕ) (xs os : List ℕ) → length os ≡ k → a + k ≤ length xs → length (put_mid a k xs os) ≡ length xs
length_over a k xs os e h = simp (length-append, length-take, length-drop) (omega (arith, e, h))

pub length_part : (a k : ℕ) (xs : List ℕ) → a + k ≤ length xs → length (take k (drop a xs)) ≡ k
length_part a k xs h = length-take-le k (drop a xs) (omega (arith, length-drop a xs, h))

-- what a store leaves of the zeros after it
pub written_from : (n at : ℕ) (xs os : List ℕ) → IsZeroFrom n xs → at + length os ≤ n → IsZeroFrom n (sets xs at os)
written_from n at xs os z h =
    let long = length-sets xs at os in
    let l : at + length os ≤ length xs = omega (arith, h, z.0) in (
      omega (arith, z.0, long),
      ap (drop n) (sym (part_written xs os at (length os) refl l)) ∙ drop-put_mid at (length os) xs os n h (omega (arith, l)) refl
          ∙ z.1 ∙ ap (λ k. replicate (k - n) 0) (sym long),
    )

-- an end that is written over whole
over_end : (m : ℕ) (zs us : List ℕ) → m ≤ length zs → length us ≡ length zs - m → put_mid m (length zs - m) zs us ≡ take m zs ++ us
over_end m zs us h e =
    let none : drop (length zs - m) (drop m zs) ≡ [] = drop_all (length zs - m) (drop m zs) (simp length-drop (omega arith)) in
    rw none (ap (λ v. take m zs ++ v) (append-nil us))

-- the zeros before the others are put, and then what follows them
pub copied_from : (n m a k : ℕ) (xs ys os us : List ℕ) → IsZeroBelow n xs → IsZeroBelow m ys → length xs ≡ length ys →
    a ≡ min n m → k ≡ m - a → os ≡ replicate (length (take k (drop a xs))) 0 → us ≡ take (length ys - m) (drop m ys) →
    put_mid m (length (put_mid a k xs os) - m) (put_mid a k xs os) us ≡ ys
copied_from n m a k xs ys os us z y l ea ek put copied =
    let low : a ≤ m = omega (arith, ea) in
    let near : a ≤ length xs = omega (arith, l, y.0, low) in
    let on : a + k ≡ m = omega (arith, ek, low) in
    let eo : os ≡ replicate k 0 = put ∙ ap (λ v. replicate v 0) (length_part a k xs (omega (arith, on, l, y.0))) in
    let eu : us ≡ drop m ys = copied ∙ take_rest ys m in
    let ko : length os ≡ k = ap length eo ∙ length-replicate {A = ℕ} k 0 in
    let zs = put_mid a k xs os in
    let long : length zs ≡ length ys = length_over a k xs os ko (omega (arith, on, l, y.0)) ∙ l in
    let front : take m zs ≡ replicate m 0 =
    take-put_mid a k xs os m (omega (arith, on, ko)) near
    ∙ ap (λ v. v ++ os) ((zero_below_too a n xs z (omega (arith, ea))).1)
    ∙ ap (λ v. replicate a 0 ++ v) eo
    ∙ replicate-append-replicate a k 0 ∙ ap (λ v. replicate v 0) on in
    let rest : length us ≡ length zs - m = ap length eu ∙ length-drop m ys ∙ ap (λ v. v - m) (sym long) in
    over_end m zs us (omega (arith, long, y.0)) rest
    ∙ ap (λ v. v ++ us) (front ∙ sym y.1)
    ∙ ap (λ v. take m ys ++ v) eu ∙ take-append-drop m ys

-- the zeros after the others are put, and then what precedes them
pub copied_below : (n m e k : ℕ) (xs ys os us : List ℕ) → IsZeroFrom n xs → IsZeroFrom m ys → length xs ≡ length ys →
    e ≡ max n m → k ≡ e - m → os ≡ replicate (length (take k (drop m xs))) 0 → us ≡ take m ys →
    us ++ drop m (put_mid m k xs os) ≡ ys
copied_below n m e k xs ys os us z y l ee ek put eu =
    let on : m + k ≡ e = omega (arith, ek, ee) in
    let far : e ≤ length xs = omega (arith, ee, z.0, y.0, l) in
    let eo : os ≡ replicate k 0 = put ∙ ap (λ v. replicate v 0) (length_part m k xs (omega (arith, on, far))) in
    let behind : drop k (drop m xs) ≡ replicate (length xs - e) 0 =
    drop-drop k m xs ∙ ap (λ v. drop v xs) on ∙ (zero_from_too e n xs z (omega (arith, ee)) far).1 in
    let rest : k + (length xs - e) ≡ length ys - m = omega (arith, ek, ee, far, l, y.0) in
    let end : drop m (put_mid m k xs os) ≡ drop m ys =
    drop_at (take m xs) (os ++ drop k (drop m xs)) m (length-take-le m xs (omega (arith, far, ee)))
    ∙ ap (λ v. v ++ drop k (drop m xs)) eo ∙ ap (λ v. replicate k 0 ++ v) behind
    ∙ replicate-append-replicate k (length xs - e) 0 ∙ ap (λ v. replicate v 0) rest ∙ sym y.1 in
    ap (λ v. us ++ v) end ∙ ap (λ v. v ++ drop m ys) eu ∙ take-append-drop m ys

-- regions with the same zeros at the start or at the end are the same if their other octets are
pub same_from : (n : ℕ) (xs ys : List ℕ) → IsZeroBelow n xs → IsZeroBelow n ys → drop n xs ≡ drop n ys → xs ≡ ys
same_from n xs ys z y e = same_parts n xs ys (z.1 ∙ sym y.1) e

pub same_below : (n : ℕ) (xs ys : List ℕ) → IsZeroFrom n xs → IsZeroFrom n ys → length xs ≡ length ys → take n xs ≡ take n ys → xs ≡ ys
same_below n xs ys z y l e = same_parts n xs ys e (z.1 ∙ ap (λ k. replicate (k - n) 0) l ∙ sym y.1)

-- one more part that is zero
pub zero_below_more : (n k : ℕ) (xs : List ℕ) → IsZeroBelow n xs → n + k ≤ length xs → take k (drop n xs) ≡ replicate k 0 → IsZeroBelow (n + k) xs
zero_below_more n k xs z h e = (
  h,
  take-add n k xs ∙ ap (λ v. v ++ take k (drop n xs)) z.1 ∙ ap (λ v. replicate n 0 ++ v) e ∙ replicate-append-replicate n k 0,
)
