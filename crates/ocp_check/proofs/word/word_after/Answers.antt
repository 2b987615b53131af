use Rattle.std.proofs.Common.{Option, Some, subst, arith}
use Rattle.ocp_check.specs.declared.range.Range.{Range}
use Rattle.ocp_check.specs.declared.word.Word.{Word}
use Rattle.ocp_check.specs.Mirror.Ranges.{IsIn}
use Rattle.ocp_check.specs.Mirror.Words.{IsWord}
use Rattle.ocp_check.proofs.Words.{ends_before, word_kept}
use Rattle.ocp_check.proofs.word.word_after.Goals as goal

pub returns-then-is_apart : goal.returns-then-is_apart
returns-then-is_apart c = λ bases old new p v w i there m.
    let word = c.in-Some-Some.word in
    let g : IsWord (Some word) bases old = subst (λ (o : Option Word). IsWord o bases old) c.in-Some-Some.is-0 w in
    let apart = c.is_apart.ensures c.if-is_apart.true p (subst (λ (o : Option Range). IsIn o p) c.in-Some-Some.is-1 i) in
    word_kept word bases old new (c.loads_give_what_was_stored.ensures.apart old new p c.args.octets v word.address 8 (ends_before p c.args.octets there) (omega (arith, g.2)) apart m) g
