-- An access inside a region that both profiles have may be read, or written.
use Rattle.std.proofs.Common.{◌≡◌, ◌≤◌, inl, inr, ℕ, Bool, true, false, arith}
use Rattle.ocp_profile.specs.declared.profile.Profile.{Profile}
use Rattle.ocp_profile.specs.declared.profile.Profile.TheVariants.{One, Two}
use Rattle.ocp_regions.specs.Memory.{work_octets}
use Rattle.ocp_regions.specs.Access.{MayBeRead, MayBeWritten}
use Rattle.ocp_check.specs.Mirror.Ranges.{IsThere}

large : (profile : Profile) → 1024 ≤ work_octets profile
large One = omega arith
large Two = omega arith

pub readable : (profile : Profile) (writes : Bool) (q n : ℕ) → IsThere writes q n → MayBeRead profile q n
readable profile writes q n (inl stack) = inr (inl stack)
readable profile writes q n (inr (inl work)) = inr (inr (work.0, omega (arith, work.1, large profile)))
readable profile writes q n (inr (inr arguments)) = inl (arguments.1, arguments.2)

pub writable : (profile : Profile) (q n : ℕ) → IsThere true q n → MayBeWritten profile q n
writable profile q n (inl stack) = inl stack
writable profile q n (inr (inl work)) = inr (work.0, omega (arith, work.1, large profile))
writable profile q n (inr (inr arguments)) = absurd (no_store arguments.0)
  where
    no_store : true ≡ false → ⊥
    no_store e = cc
