-- Identifiers that rise.
use Rattle.std.proofs.Common.{◌≡◌, ◌<◌, ℕ, ◌+◌, ◌-◌, List, length, map, get_or, ap, ◌∙◌, arith}
use Rattle.std.proofs.lemmas.List.{get_or-map}
use Rattle.obcp_types.specs.declared.status.StatusRow.{StatusRow}

abbrev pub ids : List StatusRow → List ℕ
ids rows = map (λ row. row.id) rows

-- the identifiers before a row and at it, as numbers of the list
pub rising_at : (rows : List StatusRow) (blank : StatusRow) (i k : ℕ) → k + 1 ≡ i → i < length rows →
    (get_or (ids rows) k 0 ≡ (get_or rows (i - 1) blank).id) × (get_or (ids rows) (k + 1) 0 ≡ (get_or rows i blank).id)
rising_at rows blank i k e h =
    let before : k ≡ i - 1 = omega arith in
    let low : i - 1 < length rows = omega arith in (
      ap (λ n. get_or (ids rows) n 0) before ∙ get_or-map (λ (row : StatusRow). row.id) rows (i - 1) blank 0 low,
      ap (λ n. get_or (ids rows) n 0) e ∙ get_or-map (λ (row : StatusRow). row.id) rows i blank 0 h,
    )
