-- A procedure's record after an effect follows from the effect and from that record alone.
use Rattle.std.proofs.Common.{◌≡◌, ℕ, Option, Some, None, true, false, cond, refl, sym, ap, ◌∙◌}
use Rattle.std.specs.Prelude.{◌==◌}
use Rattle.std.proofs.lemmas.Bool.{eqb-true}
use Rattle.std.specs.Cmp.{nat_cmp_total, unsigned_tied}
use Rattle.std.specs.FinMap as map
use Rattle.ocp_table.specs.Records.{Rec, Records}
use Rattle.ocp_table.specs.Effects.{Effect, Loaded, Unloaded, Changed, Kept, Drained, WordPut, Change, record_by, new_record, with_change, records_by}

abbrev pub changed_if_there : Change → Option Rec → Option Rec
changed_if_there change None = None
changed_if_there change (Some r) = Some (record_by change r)

-- the record of one procedure after an effect
abbrev pub own_by : ℕ → Effect → Option Rec → Option Rec
own_by q (Loaded profile id image) o = cond (q == id) (Some (new_record profile image)) o
own_by q (Unloaded id) o = cond (q == id) None o
own_by q (Changed id change) o = cond (q == id) (changed_if_there change o) o
own_by q (Kept why) o = o
own_by q Drained o = o
own_by q (WordPut index value) o = o

get-insert : (m : Records) (k : ℕ) (r : Rec) (q : ℕ) → map.get (map.insert m k r) q ≡ cond (q == k) (Some r) (map.get m q)
get-insert m k r q = map.get-insert nat_cmp_total m k r q ∙ ap (λ b. cond b (Some r) (map.get m q)) (unsigned_tied q k)

get-remove : (m : Records) (k q : ℕ) → map.get (map.remove m k) q ≡ cond (q == k) None (map.get m q)
get-remove m k q = map.get-remove nat_cmp_total m k q ∙ ap (λ b. cond b None (map.get m q)) (unsigned_tied q k)

module _ (id : ℕ) (change : Change) (m : Records) (q : ℕ) where
  get-with_change : (o : Option Rec) → map.get m id ≡ o → map.get (with_change o id change m) q ≡ cond (q == id) (changed_if_there change (map.get m q)) (map.get m q)
  get-with_change None is = elim (q == id) as (λ b. (q == id) ≡ b → map.get m q ≡ cond b (changed_if_there change (map.get m q)) (map.get m q)) [
    | true ↦ λ e. let none : map.get m q ≡ None = ap (map.get m) (eqb-true q id e) ∙ is in none ∙ sym (ap (changed_if_there change) none)
    | false ↦ λ e. refl
  ] refl
  get-with_change (Some r) is = get-insert m id (record_by change r) q ∙ elim (q == id) as (λ b. (q == id) ≡ b → cond b (Some (record_by change r)) (map.get m q) ≡ cond b (changed_if_there change (map.get m q)) (map.get m q)) [
    | true ↦ λ e. sym (ap (changed_if_there change) (ap (map.get m) (eqb-true q id e) ∙ is))
    | false ↦ λ e. refl
  ] refl

pub get-records_by : (effect : Effect) (m : Records) (q : ℕ) → map.get (records_by effect m) q ≡ own_by q effect (map.get m q)
get-records_by (Loaded profile id image) m q = get-insert m id (new_record profile image) q
get-records_by (Unloaded id) m q = get-remove m id q
get-records_by (Changed id change) m q = get-with_change id change m q (map.get m id) refl
get-records_by (Kept why) m q = refl
get-records_by Drained m q = refl
get-records_by (WordPut index value) m q = refl
