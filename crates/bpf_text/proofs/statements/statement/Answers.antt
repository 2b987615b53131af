use Rattle.std.proofs.Common.{sym, subst, ◌∙◌, ◌≡◌, Option, List, ℕ, Bor, IfSome, false}
use Rattle.bpf_canonical.specs.declared.mnemonic.Mnemonic.{Mnemonic}
use Rattle.bpf_canonical.specs.Mnemonics.{mnemonic_name}
use Rattle.bpf_text.specs.Judged.{texts}
use Rattle.bpf_text.specs.Mirror.Reads.{state, Takes}
use Rattle.bpf_text.proofs.JudgeLemmas.{form_judged}
use Rattle.bpf_text.proofs.statements.statement.Goals as goal

pub returns : goal.returns
returns c =
    let word = c.in_ok-word.word.now in
    let takes = subst (λ (r : Option (Bor (List ℕ))). Takes (texts c.args.tokens.now, false) r (state c.token.new.self)) c.in_ok-word.ensures.ok_part c.token.ensures in
    let found = c.in_ok-mnemonic.ensures.ok_part in
    form_judged (texts c.args.tokens.now) word (texts c.token.new.self.rest.now) c.in_ok-mnemonic.mnemonic c.complete.result takes.0
    (subst (λ (r : Option Mnemonic). IfSome r (λ m. word ≡ mnemonic_name m)) found c.read_mnemonic.ensures.some)
    (λ m e. sym found ∙ c.read_mnemonic.ensures.only m e) c.complete.ensures
