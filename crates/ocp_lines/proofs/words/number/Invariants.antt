use Rattle.std.proofs.Common.{◌≡◌, ◌≤◌, true, take}
use Rattle.std.specs.List.{list_all}
use Rattle.ocp_lines.specs.Words.{is_digit, value_of}
use Rattle.ocp_lines.proofs.words.number.Given as goal

abbrev pub invariant-loop-octet : goal.invariant-loop-octet
invariant-loop-octet l = record {
  digits : list_all is_digit (take l.octet-index l.word) ≡ true;
  value : l.value ≡ value_of (take l.octet-index l.word);
  most : l.value ≤ l.most;
}
