use Rattle.std.proofs.Common.{rules, ◌<◌, ◌∙◌}
use Rattle.std.proofs.lemmas.List.{length-set}
use Rattle.ocp_check.proofs.Words.{put_word}
use Rattle.ocp_check.proofs.word.words_with_known.Goals as goal

pub loop-k-init : goal.loop-k-init
loop-k-init c = record { long = search (rules, c); known = λ bases m v w f i. w }

pub loop-k-preserved : goal.loop-k-preserved
loop-k-preserved c = record {
  long = length-set c.loop-k.changed c.loop-k.k c.word_with_known.result ∙ c.loop-k.invariant.long;
  known = λ bases m v w f i.
      let k : c.loop-k.k < 8 = search (rules, c) in
      put_word c.loop-k.changed bases m c.loop-k.k c.word_with_known.result c.loop-k.invariant.long k (c.loop-k.invariant.known bases m v w f i) (c.word_with_known.ensures bases m v (w.each c.loop-k.k k) f i);
}

pub returns : goal.returns
returns c = c.loop-k.invariant.known
