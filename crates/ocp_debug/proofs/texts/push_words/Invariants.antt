use Rattle.std.proofs.Common.{◌≡◌, ◌≤◌, ◌+◌, ◌*◌, ◌++◌, drop, length}
use Rattle.ocp_debug.specs.Texts.{words_text}
use Rattle.ocp_debug.proofs.texts.push_words.Given as goal

-- the words so far, and the rest
abbrev pub invariant-loop-word : goal.invariant-loop-word
invariant-loop-word l = record {
  text : l.text ++ words_text (drop l.word-index l.words) ≡ l.fn.text ++ words_text l.fn.words;
  few : length l.text ≤ length l.fn.text + 17 * l.word-index;
}
