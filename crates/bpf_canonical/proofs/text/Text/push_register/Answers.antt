use Rattle.std.proofs.Common.{rules, arith, ◌≡◌, ◌<◌, ◌++◌, ◌∷◌, [], ◌∙◌, sym, ap, ℕ, List}
use Rattle.std.specs.Fmt.{decimal}
use Rattle.std.proofs.lemmas.Fmt.{decimal_digit, decimal_step}
use Rattle.bpf_canonical.proofs.text.Text.push_register.Goals as goal

ten : decimal 10 ≡ 49 ∷ 48 ∷ []
ten = decimal_step 10 (omega arith) (omega arith) ∙ ap (λ (t : List ℕ). t ++ 48 ∷ []) (decimal_digit 1 (omega arith))

pub returns-then-number-lt10-clause-items : goal.returns-then-number-lt10-clause-items
returns-then-number-lt10-clause-items g c =
    let small : c.args.reg < 10 = omega (arith, c.number-number.ensures.same, c.if-number-lt10.true) in
    rw (decimal_digit c.args.reg small) (search rules)

pub returns-else-number-lt10-clause-items : goal.returns-else-number-lt10-clause-items
returns-else-number-lt10-clause-items g c =
    let last : c.args.reg ≡ 10 = omega (arith, c.number-number.ensures.same, c.number-number.ensures.in_range, c.if-number-lt10.false) in
    c.push_all-else-number-lt10.ensures.items ∙ ap (λ (t : List ℕ). c.args.self.now ++ 114 ∷ t) (sym (ap decimal last ∙ ten))
