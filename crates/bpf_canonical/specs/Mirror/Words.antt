-- Mnemonics that have no class.
use Rattle.bpf_canonical.specs.declared.mnemonic.Mnemonic.{Mnemonic}
use Rattle.bpf_canonical.specs.declared.mnemonic.Mnemonic.TheVariants as word

abbrev pub IsPlain : Mnemonic → Type 0
IsPlain (word.Classed stem width) = ⊥
IsPlain _ = Unit {0}
