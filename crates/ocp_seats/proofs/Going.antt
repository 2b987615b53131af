-- Journals that grow.
use Rattle.std.proofs.Common.{◌≡◌, List, [], ◌∷◌, ◌++◌, length, drop, map, refl, ap, sym, subst, ◌∙◌, append_assoc, ◌+◌, ℕ, arith, length-append}
use Rattle.std.proofs.lemmas.List.{append-nil, length-map}
use Rattle.std.proofs.lemmas.Bool.{ne_eqb}
use Rattle.ocp_core.specs.Log.{Log, Entry}
use Rattle.ocp_core.specs.Marks.{MarkedEntry}
use Rattle.ocp_core.specs.Receipts.{Grows, slice_entries, commit_entries}
use Rattle.ocp_core.specs.declared.answers.CommitOutcome.{CommitOutcome}
use Rattle.ocp_core.specs.declared.answers.CommitOutcome.TheVariants as C
use Rattle.ocp_table.specs.declared.answers.Slice.{Slice}
use Rattle.ocp_seats.specs.Going.{GoesOn}

drop_all : {A : Type 0} (xs : List A) → drop (length xs) xs ≡ []
drop_all [] = refl
drop_all (x ∷ xs) = drop_all xs

drop_first : {A : Type 0} (xs ys : List A) → drop (length xs) (xs ++ ys) ≡ ys
drop_first [] ys = refl
drop_first (x ∷ xs) ys = drop_first xs ys

pub goes_on_by : (start : Log) (more : List Entry) → GoesOn start (record start { entries = start.entries ++ more })
goes_on_by start more = record {
  journal = ap (λ (es : List Entry). record start { entries = start.entries ++ es }) (sym (drop_first start.entries more));
}

pub goes_on_start : (start now : Log) → start ≡ now → GoesOn start now
goes_on_start start now same = subst (λ (l : Log). GoesOn start l) same (record {
  journal = ap (λ (es : List Entry). record start { entries = es }) (sym (append-nil start.entries) ∙ ap (λ (es : List Entry). start.entries ++ es) (sym (drop_all start.entries)));
})

pub goes_on_further : (start old new : Log) (entries : List MarkedEntry) → GoesOn start old → Grows old new entries → GoesOn start new
goes_on_further start old new entries one grows =
    let more : List Entry = map (λ (m : MarkedEntry). m.entry) entries in
    let first : List Entry = drop (length start.entries) old.entries in
    let journal : new ≡ record start { entries = start.entries ++ (first ++ more) } =
    grows.journal
    ∙ ap (λ (l : Log). record l { entries = l.entries ++ more }) one.journal
    ∙ ap (λ (es : List Entry). record start { entries = es }) (append_assoc start.entries first more) in
    subst (λ (l : Log). GoesOn start l) (sym journal) (goes_on_by start (first ++ more))

-- what a book keeps of its journal as it gains entries: their count, its capacity, and how it goes on
pub grown : (start old new : Log) (entries : List MarkedEntry) (first room total : ℕ) → length old.entries ≡ first + total → old.capacity ≡ first + room → GoesOn start old → Grows old new entries → (length new.entries ≡ first + (total + length entries)) × (new.capacity ≡ first + room) × GoesOn start new
grown start old new entries first room total long capacity one grows =
    let gained : length new.entries ≡ length old.entries + length entries = ap (λ (l : Log). length l.entries) grows.journal ∙ (length-append old.entries (map (λ (m : MarkedEntry). m.entry) entries) ∙ ap (λ (n : ℕ). length old.entries + n) (length-map entries (λ (m : MarkedEntry). m.entry))) in
    (omega (arith, gained, long), ap (λ (l : Log). l.capacity) grows.journal ∙ capacity, goes_on_further start old new entries one grows)

pub entry_of_some : (by id : ℕ) (slice : Slice) → (slice.count ≡ 0 → ⊥) → length (slice_entries by id slice) ≡ 1
entry_of_some by id slice some = rw (ne_eqb slice.count 0 some) refl

pub entry_of_none : (by id : ℕ) (slice : Slice) → slice.count ≡ 0 → length (slice_entries by id slice) ≡ 0
entry_of_none by id slice none = rw none refl

pub no_entry : (by id : ℕ) (outcome : CommitOutcome) → ((n : ℕ) → outcome ≡ C.Committed n → ⊥) → length (commit_entries by id outcome) ≡ 0
no_entry by id C.Empty refused = refl
no_entry by id C.Stale refused = refl
no_entry by id C.JournalFull refused = refl
no_entry by id (C.Committed n) refused = absurd (refused n refl)
