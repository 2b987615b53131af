-- Bounds of quotients.
use Rattle.std.proofs.Common.{◌≡◌, ◌≤◌, ◌<◌, ℕ, ◌/◌, if◌then◌else◌, ◌==◌, arith}
use Rattle.std.proofs.Math.Nat.{div-mul-le_self}
use Rattle.std.proofs.lemmas.Nat.{le-div}
use Rattle.std.proofs.lemmas.Bool.Decides.{nat_tests}

pub divided : (a b k : ℕ) → 0 < k → a ≤ b → a / k ≤ b / k
divided a b k z h = let l = div-mul-le_self a k in le-div (a / k) b k z (omega (arith, l, h))

pub quotient_by : (x y k : ℕ) → y ≡ k → 0 < k → x / k ≡ (if y == 0 then 0 else x / y)
quotient_by x y k e z = grind (arith, nat_tests)
