use Rattle.std.proofs.Common.{◌≡◌, ℕ, Option, subst, inr}
use Rattle.std.specs.Prelude.{IfSome}
use Rattle.ocp_check.specs.Never.{AsksWell}
use Rattle.ocp_check.specs.Rounds.{IsWithin}
use Rattle.ocp_commands.specs.Checks.{Checks, verdict}
use Rattle.ocp_commands.proofs.checking.output_of_findings.Goals as goal

pub returns-then-words-pool_words : goal.returns-then-words-pool_words
unfolding Checks
returns-then-words-pool_words g c = λ profile input h a.
    let words = c.in-Some-Some.words in
    let most = c.in-Some-Some.most in
    let asks : AsksWell c.args.program.now words = subst (λ (o : Option ℕ). IfSome o (AsksWell c.args.program.now)) c.in-Some-Some.is-0 c.requires.words in
    let round : IsWithin c.args.program.now most = subst (λ (o : Option ℕ). IfSome o (IsWithin c.args.program.now)) c.in-Some-Some.is-1 c.requires.round in
    let text : c.push_verdict.new.text.items ≡ verdict words most = rw c.new-text.ensures.items at c.in_ok-push_verdict.ensures in
    (c.args.program.now, h, a, words, most, c.if-words-pool_words.true, record { faults = c.requires.never c.if-findings.true; asks = asks; round = round }, text)

pub returns : goal.returns
unfolding Checks
returns g c = λ profile input h a. inr (c.args.program.now, h, a)
