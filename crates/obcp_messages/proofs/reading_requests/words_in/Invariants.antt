use Rattle.std.proofs.Common.{◌≡◌, ◌-◌, ◌*◌, ◌++◌, length, drop}
use Rattle.obcp_messages.specs.Fields.{numbers}
use Rattle.obcp_messages.proofs.reading_requests.words_in.Given as goal

abbrev pub invariant-loop-i : goal.invariant-loop-i
invariant-loop-i l = record {
  so_far : length l.words.items ≡ l.i;
  whatever_follows : l.words.items ++ numbers 8 (l.count - l.i) (drop (8 * l.i) l.octets) ≡ numbers 8 l.count l.octets;
}
