use Rattle.std.proofs.Common.{rules, ◌<◌, refl, ◌∙◌}
use Rattle.std.proofs.lemmas.List.{length-set}
use Rattle.ocp_check.proofs.Words.{put_word, unknown}
use Rattle.ocp_check.proofs.word.words_after.Goals as goal

pub loop-k-init : goal.loop-k-init
loop-k-init c = record { long = refl; known = λ bases old new p v w i there m. unknown bases new }

pub loop-k-preserved : goal.loop-k-preserved
loop-k-preserved c = record {
  long = length-set c.loop-k.after c.loop-k.k c.word_after.result ∙ c.loop-k.invariant.long;
  known = λ bases old new p v w i there m.
      let k : c.loop-k.k < 8 = search (rules, c) in
      put_word c.loop-k.after bases new c.loop-k.k c.word_after.result c.loop-k.invariant.long k (c.loop-k.invariant.known bases old new p v w i there m) (c.word_after.ensures bases old new p v (w.each c.loop-k.k k) i there m);
}

pub returns : goal.returns
returns c = c.loop-k.invariant.known
