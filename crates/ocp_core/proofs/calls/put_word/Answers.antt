use Rattle.std.proofs.Common.{◌≡◌, ◌<◌, true, Ok, Err, sym, ap, subst, ◌∙◌}
use Rattle.ocp_world.specs.declared.answers.PutFault.TheVariants.{BadPoolIndex}
use Rattle.ocp_world.specs.World.{World, Put}
use Rattle.ocp_world.specs.After.{Written, after, is_accepted}
use Rattle.ocp_core.specs.Log.{Wrote}
use Rattle.ocp_core.proofs.Counting.{counted}
use Rattle.ocp_core.proofs.Storing.{refused_store, full_store, done_store, refused_at, full_at, done_at, IsWorld-pushed}
use Rattle.ocp_core.proofs.calls.put_word.Goals as goal

pub returns-in_default-clause-answer : goal.returns-in_default-clause-answer
returns-in_default-clause-answer g c =
    let w : World = g.S.Store.world c.args.store.now in
    let told = c.in_default.ensures.answer w c.args.by c.args.value c.requires.stands in
    refused_at _ w (Put c.args.by c.args.index c.args.value) (Written (Err BadPoolIndex)) (ap is_accepted told) (sym told)

pub returns-in_default-clause-store : goal.returns-in_default-clause-store
returns-in_default-clause-store g c =
    let w : World = g.S.Store.world c.args.store.now in
    refused_store g.S.Store.world g.S.Store.is_full g.S.Store.with_entry c.args.store.now (Put c.args.by c.args.index c.args.value) (ap is_accepted (c.in_default.ensures.answer w c.args.by c.args.value c.requires.stands))

pub returns-then-is_full-clause-answer : goal.returns-then-is_full-clause-answer
returns-then-is_full-clause-answer g c =
    let w : World = g.S.Store.world c.args.store.now in
    let told = c.in-Some.ensures.answer w c.args.by c.args.value c.requires.stands in
    full_at _ w (Put c.args.by c.args.index c.args.value) (ap is_accepted told) (sym c.is_full.ensures ∙ c.if-is_full.true)

pub returns-then-is_full-clause-store : goal.returns-then-is_full-clause-store
returns-then-is_full-clause-store g c =
    let w : World = g.S.Store.world c.args.store.now in
    let told = c.in-Some.ensures.answer w c.args.by c.args.value c.requires.stands in
    full_store g.S.Store.world g.S.Store.is_full g.S.Store.with_entry c.args.store.now (Put c.args.by c.args.index c.args.value) (ap is_accepted told) (sym c.is_full.ensures ∙ c.if-is_full.true)

pub push_word-requires : goal.push_word-requires
push_word-requires g c =
    let w : World = g.S.Store.world c.args.store.now in
    let told = c.in-Some.ensures.answer w c.args.by c.args.value c.requires.stands in
    let same = sym c.in-Some.ensures.word.0 in
    record {
      room = ap (λ i. g.S.Store.is_full c.args.store.now (Wrote c.args.by i c.args.value)) c.in-Some.ensures.word.0 ∙ sym c.is_full.ensures ∙ c.if-is_full.false;
      accepted = counted w (Put c.args.by c.in-Some.word c.args.value) (subst (λ i. is_accepted (after w (Put c.args.by i c.args.value)).answer ≡ true) same (ap is_accepted told));
      mark = subst (λ i. Written (Ok tt) ≡ (after w (Put c.args.by i c.args.value)).answer) same (sym told);
    }

pub returns-clause-answer : goal.returns-clause-answer
returns-clause-answer g c =
    let w : World = g.S.Store.world c.args.store.now in
    let told = c.in-Some.ensures.answer w c.args.by c.args.value c.requires.stands in
    done_at _ w (Put c.args.by c.args.index c.args.value) (Written (Ok tt)) (ap is_accepted told) (sym c.is_full.ensures ∙ c.if-is_full.false) (sym told)

pub returns-clause-store : goal.returns-clause-store
returns-clause-store g c =
    let w : World = g.S.Store.world c.args.store.now in
    let told = c.in-Some.ensures.answer w c.args.by c.args.value c.requires.stands in
    done_store g.S.Store.world g.S.Store.is_full g.S.Store.with_entry c.args.store.now (Put c.args.by c.args.index c.args.value) _ (ap is_accepted told) (sym c.is_full.ensures ∙ c.if-is_full.false)
    (c.push_word.ensures ∙ ap (λ i. g.S.Store.with_entry c.args.store.now (Wrote c.args.by i c.args.value)) c.in-Some.ensures.word.0)

pub returns-clause-world : goal.returns-clause-world
returns-clause-world g c = IsWorld-pushed g.S.Store.world g.S.Store.with_entry g.met.S.Store.replays_entry c.args.store.now _ _ _ c.push_word.ensures (c.put_word.ensures _ c.args.by c.requires.stands)

pub returns-clause-word : goal.returns-clause-word
returns-clause-word g c = subst (λ i. i < 256) c.in-Some.ensures.word.0 c.in-Some.ensures.few
