-- What a call of a closure with a buffer gives.
use Rattle.std.specs.Prelude.{◌≡◌, ℕ, List}
use denote.Ref.{MutBor}
use denote.Param.Members.{Once}

-- what a closure of two `&mut`, to an X and to a list of octets, is called at, and what it gives
abbrev pub At : Type 0 → Type 0
At X = MutBor X × (MutBor (List ℕ) × Unit {0})

-- at a `&mut` to x and one to y, it may return r, and leave x' and y' there
pub record ReturnsAtBuffer {F X R : Type 0} (g : Once F (At X) (R × At X)) (f : F)
    (x : X) (y : List ℕ) (r : R) (x' : X) (y' : List ℕ) : Type 0 where
  pub first : MutBor X
  pub second : MutBor (List ℕ)
  pub shows : (first.now ≡ x) × (second.now ≡ y)
  pub left : At X
  pub met : g.post f (first, (second, tt)) (r, left)
  pub leaves : (left.0.now ≡ x') × (left.1.0.now ≡ y')
