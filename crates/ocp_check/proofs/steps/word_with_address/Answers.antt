use Rattle.std.proofs.Common.{rules, ◌≡◌, Option, subst}
use Rattle.ocp_check.specs.declared.word.Word.{Word}
use Rattle.ocp_check.specs.Mirror.Words.{IsWord}
use Rattle.ocp_check.proofs.Words.{word_is_read}
use Rattle.ocp_check.proofs.steps.word_with_address.Goals as goal

pub returns-in-Some : goal.returns-in-Some
returns-in-Some c = λ bases m v w r.
    let same : c.in-Some.word.address ≡ c.args.address = search (rules, c) in
    word_is_read c.in-Some.word bases m c.args.address v same (subst (λ (o : Option Word). IsWord o bases m) c.in-Some.is w) r
