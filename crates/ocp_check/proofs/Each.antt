-- Registers and words one by one.
use Rattle.std.proofs.Common.{◌≡◌, ◌≤◌, ◌<◌, ◌+◌, ◌⊎◌, inl, inr, ℕ, zero, suc, List, length, get_or, set, sym, subst, ◌∙◌, arith}
use Rattle.std.proofs.lemmas.List.{length-set, get_or-set_same, get_or-set_other}

pub same_or_not : (j k : ℕ) → (j ≡ k) ⊎ (j ≡ k → ⊥)
same_or_not j k = grind arith

pub before : {k n m : ℕ} → k < n → n ≤ m → k < m
before h l = omega (arith, h, l)

-- what holds of the numbers below one, and of that one, holds of those below the next one
pub below_next : (P : ℕ → Type 0) (n : ℕ) → ((k : ℕ) → k < n → P k) → P n → (k : ℕ) → k < n + 1 → P k
below_next P n below here k h = elim (same_or_not k n) [
  | inl e ↦ subst P (sym e) here
  | inr m ↦ below k (omega (arith, h, m))
]

-- what holds of each number below eight, and below eleven
pub eight : (P : ℕ → Type 0) → P 0 → P 1 → P 2 → P 3 → P 4 → P 5 → P 6 → P 7 → (k : ℕ) → k < 8 → P k
eight P a b c d e f g h zero m = a
eight P a b c d e f g h (suc zero) m = b
eight P a b c d e f g h (suc (suc zero)) m = c
eight P a b c d e f g h (suc (suc (suc zero))) m = d
eight P a b c d e f g h (suc (suc (suc (suc zero)))) m = e
eight P a b c d e f g h (suc (suc (suc (suc (suc zero))))) m = f
eight P a b c d e f g h (suc (suc (suc (suc (suc (suc zero)))))) m = g
eight P a b c d e f g h (suc (suc (suc (suc (suc (suc (suc zero))))))) m = h
eight P a b c d e f g h (suc (suc (suc (suc (suc (suc (suc (suc k)))))))) m = absurd (omega (arith, m))

pub eleven : (P : ℕ → Type 0) → P 0 → P 1 → P 2 → P 3 → P 4 → P 5 → P 6 → P 7 → P 8 → P 9 → P 10 → (k : ℕ) → k < 11 → P k
eleven P a b c d e f g h i j l zero m = a
eleven P a b c d e f g h i j l (suc zero) m = b
eleven P a b c d e f g h i j l (suc (suc zero)) m = c
eleven P a b c d e f g h i j l (suc (suc (suc zero))) m = d
eleven P a b c d e f g h i j l (suc (suc (suc (suc zero)))) m = e
eleven P a b c d e f g h i j l (suc (suc (suc (suc (suc zero))))) m = f
eleven P a b c d e f g h i j l (suc (suc (suc (suc (suc (suc zero)))))) m = g
eleven P a b c d e f g h i j l (suc (suc (suc (suc (suc (suc (suc zero))))))) m = h
eleven P a b c d e f g h i j l (suc (suc (suc (suc (suc (suc (suc (suc zero)))))))) m = i
eleven P a b c d e f g h i j l (suc (suc (suc (suc (suc (suc (suc (suc (suc zero))))))))) m = j
eleven P a b c d e f g h i j l (suc (suc (suc (suc (suc (suc (suc (suc (suc (suc zero)))))))))) m = l
eleven P a b c d e f g h i j l (suc (suc (suc (suc (suc (suc (suc (suc (suc (suc (suc k))))))))))) m = absurd (omega (arith, m))

-- what is known of each register is known of each after one of them is written, with what is known of that one
pub put_each : {A : Type 0} (R : A → ℕ → Type 0) (none : A) (known : List A) (registers : List ℕ) (dst v : ℕ) (one : A) → length known ≡ 11 → length registers ≡ 11 → dst < 11 →
    ((k : ℕ) → k < 11 → R (get_or known k none) (get_or registers k 0)) → R one v → (k : ℕ) → k < 11 → R (get_or (set known dst one) k none) (get_or (set registers dst v) k 0)
put_each R none known registers dst v one l n d each i k h = elim (same_or_not k dst) [
  | inl e ↦ subst (λ j. R (get_or (set known dst one) j none) (get_or (set registers dst v) j 0)) (sym e)
      (subst (λ o. R o (get_or (set registers dst v) dst 0)) (sym (get_or-set_same known dst one none (omega (arith, l, d))))
      (subst (R one) (sym (get_or-set_same registers dst v 0 (omega (arith, n, d)))) i))
  | inr m ↦ subst (λ o. R o (get_or (set registers dst v) k 0)) (sym (get_or-set_other known dst k one none m))
      (subst (R (get_or known k none)) (sym (get_or-set_other registers dst k v 0 m)) (each k h))
]

-- the same of R6 to R10
pub put_five : {A : Type 0} (R : A → ℕ → Type 0) (none : A) (known : List A) (registers : List ℕ) {a b c d e : A} {p q r s t : ℕ} → length known ≡ 11 → length registers ≡ 11 →
    ((k : ℕ) → k < 11 → R (get_or known k none) (get_or registers k 0)) → R a p → R b q → R c r → R d s → R e t →
    (k : ℕ) → k < 11 → R (get_or (set (set (set (set (set known 6 a) 7 b) 8 c) 9 d) 10 e) k none) (get_or (set (set (set (set (set registers 6 p) 7 q) 8 r) 9 s) 10 t) k 0)
put_five R none known registers {a} {b} {c} {d} {e} {p} {q} {r} {s} {t} l n each i6 i7 i8 i9 i10 =
    let x6 = set known 6 a in
    let x7 = set x6 7 b in
    let x8 = set x7 8 c in
    let x9 = set x8 9 d in
    let v6 = set registers 6 p in
    let v7 = set v6 7 q in
    let v8 = set v7 8 r in
    let v9 = set v8 9 s in
    let l6 : length x6 ≡ 11 = length-set known 6 a ∙ l in
    let l7 : length x7 ≡ 11 = length-set x6 7 b ∙ l6 in
    let l8 : length x8 ≡ 11 = length-set x7 8 c ∙ l7 in
    let l9 : length x9 ≡ 11 = length-set x8 9 d ∙ l8 in
    let n6 : length v6 ≡ 11 = length-set registers 6 p ∙ n in
    let n7 : length v7 ≡ 11 = length-set v6 7 q ∙ n6 in
    let n8 : length v8 ≡ 11 = length-set v7 8 r ∙ n7 in
    let n9 : length v9 ≡ 11 = length-set v8 9 s ∙ n8 in
    put_each R none x9 v9 10 t e l9 n9 (omega arith)
    (put_each R none x8 v8 9 s d l8 n8 (omega arith)
    (put_each R none x7 v7 8 r c l7 n7 (omega arith)
    (put_each R none x6 v6 7 q b l6 n6 (omega arith)
    (put_each R none known registers 6 p a l n (omega arith) each i6) i7) i8) i9) i10
