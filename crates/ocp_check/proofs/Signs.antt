-- Tests of numbers without a sign.
use Rattle.std.proofs.Common.{◌≡◌, ◌<◌, ℕ, ℤ, pos, refl}
use Rattle.std.specs.Prelude.{int_lt, int_le}
use Rattle.std.specs.Int.{w32, w64}
use Rattle.std.proofs.lemmas.Int.{to_z_pos}
use Rattle.bpf_types.specs.declared.line.Width.{Width}
use Rattle.bpf_types.specs.declared.line.Width.TheVariants.{W32, W64}
use Rattle.bpf_types.specs.declared.line.Comparison.{Comparison}
use Rattle.bpf_types.specs.declared.line.Comparison.TheVariants as comparison
use Rattle.bpf_values.specs.Value.{passes, signed}
use Rattle.ocp_check.specs.Mirror.Ranges.{half_of, test_without_signs}

no_sign : (width : Width) (x : ℕ) → x < half_of width → signed width x ≡ pos x
no_sign W32 x h = to_z_pos w32 x h
no_sign W64 x h = to_z_pos w64 x h

both : {R : Type 0} (f : ℤ → ℤ → R) (a b c d : ℤ) → a ≡ b → c ≡ d → f b d ≡ f a c
both f a b c d p q = cc

pub same_test : (width : Width) (t : Comparison) (x y : ℕ) → x < half_of width → y < half_of width → passes width (test_without_signs t) x y ≡ passes width t x y
same_test width comparison.Equal x y h g = refl
same_test width comparison.Greater x y h g = refl
same_test width comparison.GreaterOrEqual x y h g = refl
same_test width comparison.Set x y h g = refl
same_test width comparison.NotEqual x y h g = refl
same_test width comparison.Less x y h g = refl
same_test width comparison.LessOrEqual x y h g = refl
same_test width comparison.SignedGreater x y h g = both int_lt (signed width y) (pos y) (signed width x) (pos x) (no_sign width y g) (no_sign width x h)
same_test width comparison.SignedGreaterOrEqual x y h g = both int_le (signed width y) (pos y) (signed width x) (pos x) (no_sign width y g) (no_sign width x h)
same_test width comparison.SignedLess x y h g = both int_lt (signed width x) (pos x) (signed width y) (pos y) (no_sign width x h) (no_sign width y g)
same_test width comparison.SignedLessOrEqual x y h g = both int_le (signed width x) (pos x) (signed width y) (pos y) (no_sign width x h) (no_sign width y g)
