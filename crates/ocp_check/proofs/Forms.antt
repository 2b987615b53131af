-- Sums and products modulo 2 ^ 64.
use Rattle.std.proofs.Common.{◌≡◌, ℕ, ◌+◌, ◌-◌, ◌*◌, ◌%◌, ◌^◌, sym, ap, ◌∙◌, arith}
use Rattle.std.proofs.lemmas.Nat.{mul-mod_first}

spread : (t b p n : ℕ) → (t * b + p) * n ≡ (t * n) * b + p * n
spread t b p n = grind arith

pub product_law : (x n t b p : ℕ) → x % 2 ^ 64 ≡ (t * b + p) % 2 ^ 64 → x * n % 2 ^ 64 % 2 ^ 64 ≡ (t * n % 2 ^ 64 * b + p * n % 2 ^ 64) % 2 ^ 64
product_law x n t b p e =
    let first : (x * n) % 2 ^ 64 ≡ ((t * b + p) * n) % 2 ^ 64 = sym (mul-mod_first x n (2 ^ 64)) ∙ ap (λ k. (k * n) % 2 ^ 64) e ∙ mul-mod_first (t * b + p) n (2 ^ 64) in
    omega (arith, first, spread t b p n, mul-mod_first (t * n) b (2 ^ 64))

-- a number of one form by another of the same base, of which there is one
pub by_other : (v x t b p q : ℕ) → v % 2 ^ 64 ≡ (t * b + p) % 2 ^ 64 → x % 2 ^ 64 ≡ (1 * b + q) % 2 ^ 64 →
    v % 2 ^ 64 ≡ (x * t % 2 ^ 64 + (p + (2 ^ 64 - t * q % 2 ^ 64)) % 2 ^ 64) % 2 ^ 64
by_other v x t b p q e f =
    let first : (x * t) % 2 ^ 64 ≡ ((1 * b + q) * t) % 2 ^ 64 = sym (mul-mod_first x t (2 ^ 64)) ∙ ap (λ k. (k * t) % 2 ^ 64) f ∙ mul-mod_first (1 * b + q) t (2 ^ 64) in
    let whole : (1 * b + q) * t ≡ t * b + t * q = grind arith in
    omega (arith, e, first, whole)

-- a form that follows by the shift of its base
pub shift_law : (v b t times plus p : ℕ) → v % 2 ^ 64 ≡ (t * times % 2 ^ 64 * b + (t * plus % 2 ^ 64 + p) % 2 ^ 64) % 2 ^ 64 → v % 2 ^ 64 ≡ (t * (times * b + plus) + p) % 2 ^ 64
shift_law v b t times plus p e =
    let whole : t * (times * b + plus) ≡ (t * times) * b + t * plus = grind arith in
    omega (arith, e, whole, mul-mod_first (t * times) b (2 ^ 64))

-- the same if the base is that of the shift, or none is meant
pub shifted : (v a b t times plus p n m : ℕ) → n ≡ t * times % 2 ^ 64 → m ≡ (t * plus % 2 ^ 64 + p) % 2 ^ 64 → n * a ≡ n * b → v % 2 ^ 64 ≡ (n * a + m) % 2 ^ 64 → v % 2 ^ 64 ≡ (t * (times * b + plus) + p) % 2 ^ 64
shifted v a b t times plus p n m i j s e = shift_law v b t times plus p
    (e ∙ ap (λ k. (k + m) % 2 ^ 64) s ∙ ap (λ k. (k * b + m) % 2 ^ 64) i ∙ ap (λ k. (t * times % 2 ^ 64 * b + k) % 2 ^ 64) j)

pub zero_times : (n a b : ℕ) → n ≡ 0 → n * a ≡ n * b
zero_times n a b e =
    let first : n * a ≡ 0 * a = ap (λ k. k * a) e in
    let second : n * b ≡ 0 * b = ap (λ k. k * b) e in
    omega (arith, first, second)
