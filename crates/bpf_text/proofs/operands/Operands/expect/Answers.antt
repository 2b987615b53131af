use Rattle.std.proofs.Common.{refl, sym, ◌∙◌}
use Rattle.std.proofs.lemmas.Slice.Eq.{bytes_eq-Decides}
use Rattle.bpf_text.proofs.ReadLemmas.{word_front}
use Rattle.bpf_text.proofs.operands.Operands.expect.Goals as goal

pub returns-in-len1-up-clause-some : goal.returns-in-len1-up-clause-some
returns-in-len1-up-clause-some c =
    let same = (bytes_eq-Decides _ c.args.word.now).0 (sym c.eq.ensures ∙ c.if-eq.true) in
    (word_front c.args.self.now.rest.now c.args.word.now _ c.in-len1-up.len_at_least same, refl)
