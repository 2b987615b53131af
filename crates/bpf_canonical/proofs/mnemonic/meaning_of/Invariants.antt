use Rattle.std.proofs.Common.{◌≡◌, drop}
use Rattle.std.specs.Map.{lookup}
use Rattle.std.specs.Str.{bytes_eq}
use Rattle.bpf_canonical.proofs.mnemonic.meaning_of.Given as goal

-- no row so far has the word
abbrev pub invariant-loop-known : goal.invariant-loop-known
invariant-loop-known g l =
    lookup (λ known. bytes_eq known.now l.word) l.rows
    ≡ lookup (λ known. bytes_eq known.now l.word) (drop l.known-index l.rows)
