-- The labels that the first pass keeps.
use Rattle.std.specs.Prelude.{ℕ, List, Option}
use Rattle.std.specs.BTreeMap.{BTreeMap, get_by}
use Rattle.std.specs.Cmp.Lexicographic.{slice_cmp}
use Rattle.std.specs.Ordering.{nat_cmp}
use denote.Ref.{Bor}

-- the place of a label
abbrev pub label_at : BTreeMap (Bor (List ℕ)) ℕ → List ℕ → Option ℕ
label_at m name = get_by (λ k. slice_cmp nat_cmp name k.now) m
