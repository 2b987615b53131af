-- What is left of a budget, stretch by stretch.
use Rattle.std.proofs.Common.{◌≡◌, ℕ, suc, ◌+◌, ◌-◌, ◌≤◌, false, Option, Some, None, refl, ap, arith}
use Rattle.std.proofs.Math.Nat.{min-le_left, min-le_right}
use Rattle.std.proofs.lemmas.Bool.Decides.{nat_tests}
use Rattle.ocp_table.specs.Budgets.{one_less, less, is_spent, IsWithin, within}

-- ---- what is left

pub less-none : (o : Option ℕ) → less 0 o ≡ o
less-none None = refl
less-none (Some left) = ap Some (omega arith)

pub less-one : (o : Option ℕ) → less 1 o ≡ one_less o
less-one None = refl
less-one (Some left) = refl

-- one stretch after another
pub less-on : (n k : ℕ) (o : Option ℕ) → less k (less n o) ≡ less (n + k) o
less-on n k None = refl
less-on n k (Some left) = ap Some (omega arith)

-- the next instruction
pub less-next : (n : ℕ) (o : Option ℕ) → one_less (less n o) ≡ less (suc n) o
less-next n None = refl
less-next n (Some left) = ap Some (omega arith)

-- ---- within what is left

-- a smaller number is within it too
pub within-fewer : (o : Option ℕ) (n k : ℕ) → n ≤ k → IsWithin o k → IsWithin o n
within-fewer None n k fewer is = tt
within-fewer (Some left) n k fewer is = omega (arith, fewer, is)

-- before the last of them something is left
pub not-spent : (o : Option ℕ) (n : ℕ) → IsWithin o (suc n) → is_spent (less n o) ≡ false
not-spent None n is = refl
not-spent (Some left) n is =
    let some : 1 ≤ left - n = omega (arith, is) in
    grind (arith, nat_tests, some)

-- ---- the length of a stretch

pub within_most : (o : Option ℕ) (most : ℕ) → within o most ≤ most
within_most None most = omega arith
within_most (Some left) most = min-le_left most left

-- n instructions are left if n is no more than a stretch may have
pub within_left : (o : Option ℕ) (most n : ℕ) → n ≤ within o most → IsWithin o n
within_left None most n is = tt
within_left (Some left) most n is = omega (arith, is, min-le_right most left)
