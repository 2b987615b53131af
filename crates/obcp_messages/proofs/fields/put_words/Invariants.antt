use Rattle.std.proofs.Common.{◌≡◌, ◌+◌, ◌*◌, ◌++◌, length, take}
use Rattle.std.specs.List.{flat_map}
use Rattle.byteorder.specs.Endian.{big_bytes}
use Rattle.obcp_messages.proofs.fields.put_words.Given as goal

abbrev pub invariant-loop-word : goal.invariant-loop-word
invariant-loop-word l = record {
  so_far : l.fields.items ≡ l.initial.fields.items ++ flat_map (big_bytes 8) (take l.word-index l.words);
  size : length l.fields.items ≡ length l.initial.fields.items + 8 * l.word-index;
}
