use Rattle.std.proofs.Common.{◌≡◌, length, subst, sym, arith, ◌∙◌}
use Rattle.std.proofs.lemmas.Bool.{eqb-true}
use Rattle.bpf_text.proofs.TokenLists.{SoFar, texts, all_found, bad_found, one_found, too_many, texts_push, length_texts}
use Rattle.bpf_text.proofs.tokens.tokens.Goals as goal

pub returns-in-End-clause-some : goal.returns-in-End-clause-some
returns-in-End-clause-some c = all_found c.args.line.now c.loop-found.rest.now (texts c.loop-found.found.items) c.loop-found.invariant c.in-End.ensures

pub returns-in-Bad-clause-none : goal.returns-in-Bad-clause-none
returns-in-Bad-clause-none c ts h = absurd (bad_found c.args.line.now c.loop-found.rest.now (texts c.loop-found.found.items) c.loop-found.invariant c.in-Bad.ensures ts h)

pub returns-then-is_full-clause-none : goal.returns-then-is_full-clause-none
returns-then-is_full-clause-none c ts h =
    let more = too_many c.args.line.now c.loop-found.rest.now c.in-Found.token.now c.in-Found.after.now (texts c.loop-found.found.items) c.loop-found.invariant c.in-Found.ensures ts h in
    let same = length_texts c.loop-found.found.items in
    let full : length c.loop-found.found.items ≡ 9 = eqb-true _ _ (sym c.is_full.ensures.value ∙ c.if-is_full.true) in
    omega arith

pub loop-found-preserved : goal.loop-found-preserved
loop-found-preserved c = subst (SoFar c.args.line.now c.in-Found.after.now) (sym (texts_push c.loop-found.found.items c.push.new.self.items c.in-Found.token c.push.ensures.items))
    (one_found c.args.line.now c.loop-found.rest.now c.in-Found.token.now c.in-Found.after.now (texts c.loop-found.found.items) c.loop-found.invariant c.in-Found.ensures)
