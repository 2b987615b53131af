-- What the scanner answers for a line.
use Rattle.std.specs.Prelude.{◌≡◌, ◌↔◌, List, [], ◌∷◌, ℕ, false}
use Rattle.bpf_text.specs.Tokens.{Leads, Ends, is_blank}
use Rattle.bpf_text.specs.declared.token.Scan.{Scan}
use Rattle.bpf_text.specs.declared.token.Scan.TheVariants.{End, Bad, Found}

abbrev pub Scans : List ℕ → Scan → Type 0
Scans line End = Ends line
Scans line Bad = ¬ Ends line × ((token rest : List ℕ) → ¬ Leads line token rest)
Scans line (Found token rest) = Leads line token.now rest.now

abbrev pub NoBlank : List ℕ → Type 0
NoBlank [] = Unit {0}
NoBlank (octet ∷ octets) = is_blank octet ≡ false

-- the tokens are those of what comes after the blanks
pub record AfterBlanks (line after : List ℕ) : Type 0 where
  pub front : NoBlank after
  pub ends : Ends line ↔ Ends after
  pub leads : (token rest : List ℕ) → Leads line token rest ↔ Leads after token rest
