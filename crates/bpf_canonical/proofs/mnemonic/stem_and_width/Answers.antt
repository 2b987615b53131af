use Rattle.std.proofs.Common.{◌≡◌, ◌++◌, ◌∙◌, List, ℕ, Option, Some, ap, sym, subst, take, drop}
use Rattle.std.specs.Prelude.{IfSome}
use Rattle.bpf_canonical.specs.Mnemonics.{stem_name}
use Rattle.bpf_canonical.proofs.Tables.{parts_of, stem_meaning, stem_is_read, stem_read, width_meaning, width_is_read, width_read}
use Rattle.bpf_canonical.proofs.mnemonic.stem_and_width.Goals as goal

-- what is known of the meaning that was read
of_some : {M : Type 0} (P : M → Type 0) {read : Option M} {m : M} → Some m ≡ read → IfSome read P → P m
of_some P is h = subst (λ r. IfSome r P) (sym is) h

pub returns-clause-some : goal.returns-clause-some
returns-clause-some c =
    c.split_at.ensures.by_index.0
    ∙ ap (λ (t : List ℕ). t ++ c.split_at.result.1.now) (of_some _ c.in_ok-meaning_of.ensures (stem_is_read c.split_at.result.0.now))
    ∙ ap (λ (t : List ℕ). stem_name c.in_ok-meaning_of.field-0 ++ t) (of_some _ c.in_ok-width.ensures (width_is_read c.split_at.result.1.now))

pub returns-clause-only : goal.returns-clause-only
returns-clause-only c s w is =
    let parts = parts_of c.args.word.now s w is in
    let place = c.saturating_sub.ensures in
    let stem = c.in_ok-meaning_of.ensures ∙ ap stem_meaning (c.split_at.ensures.front ∙ ap (λ (n : ℕ). take n c.args.word.now) place ∙ parts.0) ∙ stem_read s in
    let width = c.in_ok-width.ensures ∙ ap width_meaning (c.split_at.ensures.back ∙ ap (λ (n : ℕ). drop n c.args.word.now) place ∙ parts.1) ∙ width_read w in
    cc

pub returns-in_err-width-clause-only : goal.returns-in_err-width-clause-only
returns-in_err-width-clause-only c s w is =
    let parts = parts_of c.args.word.now s w is in
    let none = c.in_err-width.ensures ∙ ap width_meaning (c.split_at.ensures.back ∙ ap (λ (n : ℕ). drop n c.args.word.now) c.saturating_sub.ensures ∙ parts.1) ∙ width_read w in
    absurd cc

pub returns-in_err-meaning_of-clause-only : goal.returns-in_err-meaning_of-clause-only
returns-in_err-meaning_of-clause-only c s w is =
    let parts = parts_of c.args.word.now s w is in
    let none = c.in_err-meaning_of.ensures ∙ ap stem_meaning (c.split_at.ensures.front ∙ ap (λ (n : ℕ). take n c.args.word.now) c.saturating_sub.ensures ∙ parts.0) ∙ stem_read s in
    absurd cc
