use Rattle.std.proofs.Common.{ap, sym, Some, ◌∙◌}
use Rattle.bpf_canonical.specs.declared.mnemonic.Mnemonic.{Mnemonic}
use Rattle.bpf_canonical.specs.declared.mnemonic.Mnemonic.TheVariants as word
use Rattle.bpf_canonical.proofs.Tables.{plain_meaning, plain_is_read, plain_read}
use Rattle.bpf_canonical.proofs.Unique.{one_mnemonic}
use Rattle.bpf_canonical.proofs.Words.{plain_only}
use Rattle.bpf_canonical.proofs.mnemonic.read_mnemonic.Goals as goal

pub returns-in-Some-clause-only : goal.returns-in-Some-clause-only
returns-in-Some-clause-only c m e =
    ap (λ (k : Mnemonic). Some k) (one_mnemonic (word.Classed c.in-Some.stem c.in-Some.width) m (sym c.in-Some.ensures.some ∙ e))

pub returns-in-None-clause-some : goal.returns-in-None-clause-some
returns-in-None-clause-some c = rw c.meaning_of.ensures (plain_is_read c.args.word.now)

pub returns-in-None-clause-only : goal.returns-in-None-clause-only
returns-in-None-clause-only c m e =
    let plain = plain_only c.args.word.now m (λ s w h. let is = c.in-None.ensures.only s w h in absurd cc) e in
    c.meaning_of.ensures ∙ ap plain_meaning e ∙ plain_read m plain
