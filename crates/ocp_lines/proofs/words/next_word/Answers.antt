use Rattle.ocp_lines.proofs.WordLemmas.{found_word}
use Rattle.ocp_lines.proofs.words.next_word.Goals as goal

pub returns : goal.returns
returns c = found_word c.args.text.now c.loop-rest.rest.now c.length_before-length.result c.loop-rest.invariant c.if-length-eq0.false c.length_before-length.ensures.bound c.length_before-length.ensures.free c.length_before-length.ensures.end
