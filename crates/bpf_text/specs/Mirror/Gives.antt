-- The widths and the numbers that are read.
use Rattle.std.specs.Prelude.{◌≡◌, ◌<◌, ◌^◌, ℕ, ℤ, pos, ◌-ℤ◌, ◌⊎◌, List, Option, Some, None}
use Rattle.bpf_types.specs.declared.line.Width.{Width}
use Rattle.bpf_types.specs.declared.line.Extension.{Extension}
use Rattle.bpf_types.specs.declared.line.Extension.TheVariants as extension
use Rattle.bpf_types.specs.declared.line.Width.TheVariants.{W32, W64}
use Rattle.bpf_types.specs.declared.line.SwapWidth.{SwapWidth}
use Rattle.bpf_types.specs.Line.{swap_width_bits, extension_width, extension_bits}
use Rattle.bpf_text.specs.Number.{IsNumeral}

-- the width of an extension, if it is of the class
abbrev pub bits_in : Width → Extension → Option ℕ
bits_in W32 extension.From8To32 = Some 8
bits_in W32 extension.From16To32 = Some 16
bits_in W64 extension.From8To64 = Some 8
bits_in W64 extension.From16To64 = Some 16
bits_in W64 extension.From32To64 = Some 32
bits_in width other = None

-- the width is written so
abbrev pub IsWidth : List ℕ → Option ℕ → Type 0
IsWidth token None = ⊥
IsWidth token (Some n) = IsNumeral token n

-- an extension of the class has this width
abbrev pub HasExtension : Width → Option ℕ → Type 0
HasExtension width None = ⊥
HasExtension width (Some n) =
    (e : Extension) × (extension_width e ≡ width) × (extension_bits e ≡ n)

-- a byte order instruction has this width
abbrev pub HasSwapWidth : ℕ → Type 0
HasSwapWidth n = (s : SwapWidth) × (swap_width_bits s ≡ n)

-- a number of 64 bits, with a minus or without
abbrev pub IsWide : ℤ → Type 0
IsWide z = (n : ℕ) × (n < 2 ^ 64) × ((z ≡ pos n) ⊎ (z ≡ pos 0 -ℤ pos n))
