use Rattle.std.proofs.Common.{◌≡◌, map, take, string_bytes}
use Rattle.ocp_words.proofs.reading.read_given.Given as goal

abbrev pub invariant-loop-word : goal.invariant-loop-word
invariant-loop-word l = map (λ word. word.now) l.words.items ≡ map string_bytes (take l.word-index l.given)
