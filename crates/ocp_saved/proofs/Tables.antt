-- Procedures that are read one after another, by rising id, make the table again.
use Rattle.std.proofs.Common.{◌≡◌, ℕ, suc, ◌<◌, ◌≤◌, List, [], ◌∷◌, ◌++◌, length, Bool, true, false, cond, Some, None, Ok, refl, sym, ap, ◌∙◌, arith, append_assoc, append-nil}
use Rattle.std.specs.Prelude.{◌==◌, ◌&&◌, T, nat_lt}
use Rattle.std.specs.List.{flat_map, AllByRecursion}
use Rattle.std.specs.Ordering.{nat_cmp, is_lt, eq_by_cmp}
use Rattle.std.specs.declared.cmp.Ordering.TheVariants.{Less, Equal, Greater}
use Rattle.std.specs.Cmp.{unsigned_tied, nat_cmp_total}
use Rattle.std.specs.FinMap.{empty, entries, entries_sorted, from_entries, from_entries_push, get-entries, get-from_entries, same_map, nat_cmp-IsAntisymmetric, insert}
use Rattle.std.specs.FinMap.Entries.{find, is_sorted, below_all}
use Rattle.std.proofs.lemmas.Bool.Decides.{nat_tests}
use Rattle.std.proofs.lemmas.List.Concat.{flat_map-cons}
use Rattle.ocp_table.specs.Records.{Rec, Records, Procedures}
use Rattle.ocp_table.specs.Effects.{with_procedure}
use Rattle.ocp_saved.specs.declared.fault.RestoreFault.TheVariants as fault
use Rattle.ocp_saved.specs.Format.{Checkpoint, procedure_octets, procedures_octets, pool_octets, outbox_octets, checkpoint_octets}
use Rattle.ocp_saved.specs.Fits.{IsEntry}
use Rattle.ocp_saved.specs.Reading.{more_times}
use Rattle.ocp_saved.specs.Restored.{Refusal, AreAccepted, IsCheckpoint, more_procedures_at, table_at, table_of, checkpoint_at}
use Rattle.ocp_saved.proofs.ReadBack.{InOrder, MadeAgain, octet_up_to_again, header_again, pool_again, outbox_again, procedure_again}

-- ---- the entries of a map rise

both : (a b : Bool) → T (a && b) → T a × T b
both true b h = (tt, h)
both false b h = absurd h

less : (a b : ℕ) → T (is_lt (nat_cmp a b)) → a < b
less a b h =
    elim (nat_lt a b) as (λ t. nat_lt a b ≡ t → T (is_lt (cond t Less (cond (a == b) Equal Greater))) → a < b) [
      | true ↦ λ is _. grind (arith, nat_tests)
      | false ↦ λ is k. elim (a == b) as (λ t. T (is_lt (cond t Equal Greater)) → a < b) [ true ↦ λ no. absurd no | false ↦ λ no. absurd no ] k
    ] refl h

apart : (a b : ℕ) → b < a → eq_by_cmp nat_cmp a b ≡ false
apart a b h = unsigned_tied a b ∙ grind (arith, nat_tests)

abbrev Rises : ℕ → List (ℕ × Rec) → Type 0
Rises low [] = Unit {0}
Rises low (e ∷ es) = (low ≤ e.0) × Rises (suc e.0) es

first_above : (low : ℕ) (e : ℕ × Rec) (es : List (ℕ × Rec)) → T (below_all nat_cmp low (e ∷ es)) → suc low ≤ e.0
first_above low e es h = let lt = less low e.0 ((both _ _ h).0) in omega (arith, lt)

rise_after : (e : ℕ × Rec) (es : List (ℕ × Rec)) → T (below_all nat_cmp e.0 es) → T (is_sorted nat_cmp es) → Rises (suc e.0) es
rise_after e [] h s = tt
rise_after e (f ∷ es) h s = (first_above e.0 f es h, rise_after f es ((both _ _ s).0) ((both _ _ s).1))

rise : (es : List (ℕ × Rec)) → T (is_sorted nat_cmp es) → Rises 0 es
rise [] s = tt
rise (e ∷ es) s = (omega arith, rise_after e es ((both _ _ s).0) ((both _ _ s).1))

-- ---- a map by its entries, one pushed after another

abbrev AreBelow : ℕ → List (ℕ × Rec) → Type 0
AreBelow high [] = Unit {0}
AreBelow high (e ∷ es) = (e.0 < high) × AreBelow high es

below_more : (low high : ℕ) (es : List (ℕ × Rec)) → low ≤ high → AreBelow low es → AreBelow high es
below_more low high [] le h = tt
below_more low high (e ∷ es) le h = (omega (arith, le, h.0), below_more low high es le h.1)

below_push : (high : ℕ) (es : List (ℕ × Rec)) (e : ℕ × Rec) → AreBelow high es → e.0 < high → AreBelow high (es ++ e ∷ [])
below_push high [] e h lt = (lt, tt)
below_push high (f ∷ es) e h lt = (h.0, below_push high es e h.1 lt)

not_there : (k : ℕ) (es : List (ℕ × Rec)) → AreBelow k es → find nat_cmp k es ≡ None
not_there k [] h = refl
not_there k (e ∷ es) h = ap (λ (b : Bool). cond b (Some e.1) (find nat_cmp k es)) (apart k e.0 h.0) ∙ not_there k es h.1

with_all : List (ℕ × Rec) → Records → Records
with_all [] m = m
with_all (e ∷ es) m = with_all es (insert m e.0 e.1)

all_pushed : (before es : List (ℕ × Rec)) (low : ℕ) → AreBelow low before → Rises low es → with_all es (from_entries before) ≡ from_entries (before ++ es)
unfolding with_all
all_pushed before [] low b r = ap from_entries (sym (append-nil before))
all_pushed before (e ∷ es) low b r =
    ap (with_all es) (sym (from_entries_push nat_cmp_total nat_cmp-IsAntisymmetric before e.0 e.1 (not_there e.0 before (below_more low e.0 before r.0 b))))
    ∙ all_pushed (before ++ e ∷ []) es (suc e.0) (below_push (suc e.0) before e (below_more low (suc e.0) before (omega (arith, r.0)) b) (omega arith)) r.1
    ∙ ap from_entries (append_assoc before (e ∷ []) es)

of_entries : (m : Records) → from_entries (entries m) ≡ m
of_entries m = same_map nat_cmp_total nat_cmp-IsAntisymmetric _ _ (λ q. get-from_entries nat_cmp_total (entries m) q ∙ sym (get-entries m q))

all_again : (m : Records) → with_all (entries m) empty ≡ m
all_again m = all_pushed [] (entries m) 0 tt (rise (entries m) (entries_sorted m)) ∙ of_entries m

-- ---- the table is read back

abbrev with_records : Procedures → Records → Procedures
with_records t m = record t { records = m }

procedures_again : InOrder → MadeAgain → (refusal : Refusal) (es : List (ℕ × Rec)) (t : Procedures) (rest : List ℕ) → AllByRecursion (IsEntry t.profile) es → AreAccepted refusal t es →
    more_times (more_procedures_at refusal) (length es) t (flat_map procedure_octets es ++ rest) ≡ Ok (with_records t (with_all es t.records), rest)
unfolding more_times more_procedures_at with_all
procedures_again order again refusal [] t rest fits ok = refl
procedures_again order again refusal (e ∷ es) t rest fits ok =
    let regrouped : flat_map procedure_octets (e ∷ es) ++ rest ≡ procedure_octets e ++ (flat_map procedure_octets es ++ rest) = ap (λ (l : List ℕ). l ++ rest) (flat_map-cons procedure_octets e es) ∙ append_assoc (procedure_octets e) (flat_map procedure_octets es) rest in
    ap (more_times (more_procedures_at refusal) (suc (length es)) t) regrouped
    ∙ rw (procedure_again order again t.profile e (flat_map procedure_octets es ++ rest) fits.0, ok.0)
    (procedures_again order again refusal es (with_procedure e.0 e.1 t) rest fits.1 ok.1)

pub restored_again : InOrder → MadeAgain → (refusal : Refusal) (c : Checkpoint) → IsCheckpoint refusal c → checkpoint_at refusal (checkpoint_octets c) ≡ Ok c
unfolding checkpoint_at checkpoint_octets table_at procedures_octets
restored_again order again refusal c is =
    let t = table_of c.header.profile c.outbox in
    let es = entries c.records in
    let os = flat_map procedure_octets es in
    let last = length es ∷ os in
    let regrouped : last ≡ length es ∷ (os ++ []) = ap (λ (l : List ℕ). length es ∷ l) (sym (append-nil os)) in
    let l2 = outbox_octets c.outbox ++ last in
    let l1 = pool_octets c.pool ++ l2 in
    rw (
      header_again c.header l1 is.header,
      pool_again c.pool l2 is.pool,
      outbox_again c.outbox last is.outbox,
      regrouped,
      octet_up_to_again 16 (length es) fault.TableFull (os ++ []) is.few,
      procedures_again order again refusal es t [] is.procedures is.accepted,
      all_again c.records,
    ) refl
