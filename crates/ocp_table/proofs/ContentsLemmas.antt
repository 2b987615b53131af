-- A slab of records with different ids, seen as a map: what a lookup finds, and what a change at one key makes of it.
use Rattle.std.proofs.Common.{◌≡◌, ◌≢◌, ℕ, suc, ◌+◌, ◌<◌, ◌≤◌, length, true, false, cond, get_or, is_some, count_by, List, [], ◌∷◌, map, Option, Some, None, refl, sym, ap, subst, ◌∙◌, inl, inr, arith, Contains}
use Rattle.std.specs.Prelude.{◌==◌, IsSome, IfSome, IfNone}
use Rattle.std.proofs.lemmas.Bool.{cases_eq, eqb-true}
use Rattle.std.proofs.lemmas.Bool.Decides.{nat_tests}
use Rattle.std.proofs.lemmas.List.Sums.{sum_by-cons, sum_by-set}
use Rattle.std.specs.Ordering.{nat_cmp}
use Rattle.std.specs.Cmp.{nat_cmp_total, unsigned_tied}
use Rattle.std.specs.FinMap as map
use Rattle.ocp_table.specs.declared.table.TheConstants.{MAX_PROCEDURES}
use Rattle.slab.specs.Slab.{Slab, get, entries, entries_from, slab_len, Updates, with_value}
use Rattle.slab.proofs.SlabLemmas.{ContainsKey-within, Contains-entries, Contains-cons, Contains-cons_cases, Updates-with_value}
use Rattle.ocp_table.specs.Mirror.Contents.{IsDistinct, IsAbsent, IsSound, IsUnder, contents}

module _ {T X : Type 0} (id_of : T → ℕ) (shown : T → X) where
  abbrev pair : ℕ × T → ℕ × X
  pair e = (id_of e.1, shown e.1)

  -- what is found is in the list
  owner : (q : ℕ) (es : List (ℕ × T)) (x : X) → map.find nat_cmp q (map pair es) ≡ Some x → (e : ℕ × T) × Contains es e × (id_of e.1 ≡ q) × (shown e.1 ≡ x)
  owner q [] x h = absurd (cc)
  owner q (e ∷ es) x h =
      elim (q == id_of e.1) as (λ b. (q == id_of e.1) ≡ b → cond b (Some (shown e.1)) (map.find nat_cmp q (map pair es)) ≡ Some x → (f : ℕ × T) × Contains (e ∷ es) f × (id_of f.1 ≡ q) × (shown f.1 ≡ x)) [
        | true ↦ λ t k. (e, (0, omega arith, refl), sym (eqb-true q (id_of e.1) t), cc)
        | false ↦ λ t k. let l = owner q es x k in (l.0, Contains-cons _ _ _ l.1, l.2, l.3)
      ] refl (subst (λ b. cond b (Some (shown e.1)) (map.find nat_cmp q (map pair es)) ≡ Some x) (unsigned_tied q (id_of e.1)) h)

  -- what is not found is not in the list
  missing : (q : ℕ) (es : List (ℕ × T)) → map.find nat_cmp q (map pair es) ≡ None → (e : ℕ × T) → Contains es e → id_of e.1 ≢ q
  missing q [] h e c = absurd (omega (arith, c.1))
  missing q (d ∷ es) h e c =
      elim (q == id_of d.1) as (λ b. (q == id_of d.1) ≡ b → cond b (Some (shown d.1)) (map.find nat_cmp q (map pair es)) ≡ None → id_of e.1 ≢ q) [
        | true ↦ λ t k. absurd (cc)
        | false ↦ λ t k. elim (Contains-cons_cases _ _ _ c) [
          | inl here ↦ λ is. false_apart q (id_of d.1) t (sym is ∙ ap (λ f. id_of f.1) (sym here))
          | inr there ↦ missing q es k e there
        ]
      ] refl (subst (λ b. cond b (Some (shown d.1)) (map.find nat_cmp q (map pair es)) ≡ None) (unsigned_tied q (id_of d.1)) h)
    where
      false_apart : (a b : ℕ) → (a == b) ≡ false → a ≢ b
      false_apart a b f e = grind (arith, nat_tests)

  -- a record under some key has this id and shows this
  pub record Stands (s : Slab T) (q : ℕ) (x : X) : Type 0 where
    pub key : ℕ
    pub held : T
    pub at : get s key ≡ Some held
    pub named : id_of held ≡ q
    pub shows : shown held ≡ x

  pub Stands-from_get : (s : Slab T) (q : ℕ) (x : X) → map.get (contents id_of shown s) q ≡ Some x → Stands s q x
  Stands-from_get s q x h =
      let o = owner q (entries s) x (sym (map.get-from_entries nat_cmp_total _ q) ∙ h) in
      record { key = o.0.0; held = o.0.1; at = (Contains-entries s o.0.0 o.0.1).0 o.1; named = o.2; shows = o.3 }

  pub get-from_Stands : (s : Slab T) → IsDistinct id_of s → (q : ℕ) (x : X) → Stands s q x → map.get (contents id_of shown s) q ≡ Some x
  get-from_Stands s apart q x here =
      elim (map.get (contents id_of shown s) q) as (λ o. map.get (contents id_of shown s) q ≡ o → o ≡ Some x) [
        | None ↦ λ n. absurd (missing q (entries s) (sym (map.get-from_entries nat_cmp_total _ q) ∙ n) (here.key, here.held) ((Contains-entries s here.key here.held).1 here.at) here.named)
        | Some y ↦ λ n.
            let other = Stands-from_get s q y n in
            let keys : other.key ≡ here.key = apart _ _ _ _ other.at here.at (other.named ∙ sym here.named) in
            let helds : other.held ≡ here.held = same_Some _ _ (sym other.at ∙ ap (get s) keys ∙ here.at) in
            ap Some (sym other.shows ∙ ap shown helds ∙ here.shows)
      ] refl
    where
      same_Some : (a b : T) → Some a ≡ Some b → a ≡ b
      same_Some a b e = cc

  pub same_option : (a b : Option X) → ((x : X) → a ≡ Some x → b ≡ Some x) → ((x : X) → b ≡ Some x → a ≡ Some x) → a ≡ b
  same_option None None f g = refl
  same_option None (Some y) f g = g y refl
  same_option (Some x) b f g = sym (f x refl)

  -- the record at this key is new or has the id of the one that it replaces, and no other record has that id
  pub record Replaces (s : Slab T) (k : ℕ) (r : T) : Type 0 where
    pub same : (old : T) → get s k ≡ Some old → id_of old ≡ id_of r
    pub others : (i : ℕ) (q : T) → i ≢ k → get s i ≡ Some q → id_of q ≢ id_of r

  pub IsDistinct-put : (s t : Slab T) (k : ℕ) (r : T) → IsDistinct id_of s → Replaces s k r → Updates s t k (Some r) → IsDistinct id_of t
  IsDistinct-put s t k r apart fits u i j p q at_i at_j same =
      elim (cases_eq i k) [
        | inl i_is ↦ elim (cases_eq j k) [
          | inl j_is ↦ i_is ∙ sym j_is
          | inr j_not ↦
              let p_is : p ≡ r = cc (ap (get t) i_is, u.changed, at_i) in
              absurd (fits.others j q j_not (sym (u.others j j_not) ∙ at_j) (sym same ∙ ap id_of p_is))
        ]
        | inr i_not ↦ elim (cases_eq j k) [
          | inl j_is ↦
              let q_is : q ≡ r = cc (ap (get t) j_is, u.changed, at_j) in
              absurd (fits.others i p i_not (sym (u.others i i_not) ∙ at_i) (same ∙ ap id_of q_is))
          | inr j_not ↦ apart i j p q (sym (u.others i i_not) ∙ at_i) (sym (u.others j j_not) ∙ at_j) same
        ]
      ]

  pub contents-put : (s t : Slab T) (k : ℕ) (r : T) → IsDistinct id_of s → Replaces s k r → Updates s t k (Some r) → contents id_of shown t ≡ map.insert (contents id_of shown s) (id_of r) (shown r)
  contents-put s t k r apart fits u =
      let apart' = IsDistinct-put s t k r apart fits u in
      map.same_map nat_cmp_total map.nat_cmp-IsAntisymmetric _ _ (λ q.
      elim (q == id_of r) as (λ b. (q == id_of r) ≡ b → map.get (contents id_of shown t) q ≡ cond b (Some (shown r)) (map.get (contents id_of shown s) q)) [
        | true ↦ λ e. get-from_Stands t apart' q (shown r) (record { key = k; held = r; at = u.changed; named = sym (eqb-true q (id_of r) e); shows = refl })
        | false ↦ λ e. same_option _ _
            (λ x h. let o = Stands-from_get t q x h in
            let not_k : o.key ≢ k = λ (is : o.key ≡ k). apart_ids q e (cc (ap (get t) is, u.changed, o.at)) o.named in
            get-from_Stands s apart q x (record { key = o.key; held = o.held; at = sym (u.others o.key not_k) ∙ o.at; named = o.named; shows = o.shows }))
            (λ x h. let o = Stands-from_get s q x h in
            let not_k : o.key ≢ k = λ (is : o.key ≡ k). tested q e (sym (sym (fits.same o.held (sym (ap (get s) is) ∙ o.at)) ∙ o.named)) in
            get-from_Stands t apart' q x (record { key = o.key; held = o.held; at = u.others o.key not_k ∙ o.at; named = o.named; shows = o.shows }))
      ] refl
      ∙ ap (λ b. cond b (Some (shown r)) (map.get (contents id_of shown s) q)) (sym (unsigned_tied q (id_of r)))
      ∙ sym (map.get-insert nat_cmp_total (contents id_of shown s) (id_of r) (shown r) q))
    where
      tested : (q : ℕ) → (q == id_of r) ≡ false → q ≢ id_of r
      tested q f e = grind (arith, nat_tests)

      apart_ids : (q : ℕ) → (q == id_of r) ≡ false → {p : T} → p ≡ r → id_of p ≢ q
      apart_ids q f is named = tested q f (sym named ∙ ap id_of is)

module _ {T : Type 0} (id_of : T → ℕ) where
  -- a search has come to the last of the entries, and those with the id are among them
  pub record IsLeft (s : Slab T) (id : ℕ) (rest : List (ℕ × T)) : Type 0 where
    pub held : (e : ℕ × T) → Contains rest e → get s e.0 ≡ Some e.1
    pub named : (key : ℕ) (r : T) → get s key ≡ Some r → id_of r ≡ id → Contains rest (key, r)

  pub IsLeft-all : (s : Slab T) (id : ℕ) (rest : List (ℕ × T)) → rest ≡ entries s → IsLeft s id rest
  IsLeft-all s id rest is = record {
    held = λ e c. (Contains-entries s e.0 e.1).0 (subst (λ xs. Contains xs e) is c);
    named = λ key r at n. subst (λ xs. Contains xs (key, r)) (sym is) ((Contains-entries s key r).1 at);
  }

  pub IsLeft-next : (s : Slab T) (id : ℕ) (k : ℕ) (r : T) (items rest : List (ℕ × T)) → items ≡ (k, r) ∷ rest → id_of r ≢ id → IsLeft s id items → IsLeft s id rest
  IsLeft-next s id k r items rest is other left = record {
    held = λ e c. left.held e (subst (λ xs. Contains xs e) (sym is) (Contains-cons _ _ _ c));
    named = λ key q at n. elim (Contains-cons_cases _ _ _ (subst (λ xs. Contains xs (key, q)) is (left.named key q at n))) [
      | inl here ↦ absurd (other (ap (λ e. id_of e.1) here ∙ n))
      | inr there ↦ there
    ];
  }

  pub IsAbsent-end : (s : Slab T) (id : ℕ) (items : List (ℕ × T)) → items ≡ [] → IsLeft s id items → IsAbsent id_of s id
  IsAbsent-end s id items is left key r at n = let c : Contains [] (key, r) = subst (λ xs. Contains xs (key, r)) is (left.named key r at n) in absurd (omega (arith, c.1))

module _ {T X : Type 0} (id_of : T → ℕ) (shown : T → X) where
  pub get-absent : (s : Slab T) (id : ℕ) → IsAbsent id_of s id → map.get (contents id_of shown s) id ≡ None
  get-absent s id absent =
      elim (map.get (contents id_of shown s) id) as (λ o. map.get (contents id_of shown s) id ≡ o → o ≡ None) [
        | None ↦ λ n. refl
        | Some x ↦ λ n. let o = Stands-from_get id_of shown s id x n in absurd (absent o.key o.held o.at o.named)
      ] refl

  same_held : (a b : T) → Some a ≡ Some b → a ≡ b
  same_held a b e = cc

  Replaces-same : (s : Slab T) (k : ℕ) (old new : T) → IsDistinct id_of s → get s k ≡ Some old → id_of new ≡ id_of old → Replaces id_of shown s k new
  Replaces-same s k old new apart at same = record {
    same = λ q at_q. ap id_of (same_held _ _ (sym at_q ∙ at)) ∙ sym same;
    others = λ i q i_not at_q is. i_not (apart i k q old at_q at (is ∙ same));
  }

  held_key : (s : Slab T) (k : ℕ) (old : T) → get s k ≡ Some old → IsSome (get s k)
  held_key s k old at = subst IsSome (sym at) refl

  pub IsDistinct-with_value : (s : Slab T) (k : ℕ) (old new : T) → IsDistinct id_of s → get s k ≡ Some old → id_of new ≡ id_of old → IsDistinct id_of (with_value s k new)
  IsDistinct-with_value s k old new apart at same = IsDistinct-put id_of shown s _ k new apart (Replaces-same s k old new apart at same) (Updates-with_value s k new (held_key s k old at))

  pub slab_len-with_value : (s : Slab T) (k : ℕ) (old new : T) → get s k ≡ Some old → slab_len (with_value s k new) ≡ slab_len s
  slab_len-with_value s k old new at =
      let within : k < length s.slots = ContainsKey-within s k (held_key s k old at) in
      let f : Option T → ℕ = λ o. cond (is_some o) 1 0 in
      let one : f (get_or s.slots k None) ≡ 1 = ap f at in
      omega (arith, sum_by-set f s.slots k (Some new) None within, one)

  -- the record with the id is under this key
  pub IsUnder-at : (s : Slab T) (k id : ℕ) (old : T) → IsSound id_of s → get s k ≡ Some old → id_of old ≡ id → IsUnder id_of shown s k id
  IsUnder-at s k id old sound at is =
      let named : (r : T) → get s k ≡ Some r → id_of r ≡ id = λ r at_r. ap id_of (same_held _ _ (sym at_r ∙ at)) ∙ is in
      record {
        held = old;
        at = at;
        named = named;
        there = λ r at_r. get-from_Stands id_of shown s sound.distinct id (shown r) (record { key = k; held = r; at = at_r; named = named r at_r; shows = refl });
        put = λ new same.
            contents-put id_of shown s _ k new sound.distinct (Replaces-same s k old new sound.distinct at (same ∙ sym is)) (Updates-with_value s k new (held_key s k old at))
            ∙ ap (λ q. map.insert (contents id_of shown s) q (shown new)) same;
        sound = λ new same. record {
          distinct = IsDistinct-with_value s k old new sound.distinct at (same ∙ sym is);
          few = subst (λ n. n ≤ MAX_PROCEDURES) (sym (slab_len-with_value s k old new at)) sound.few;
          room = sound.room;
        };
      }

  pub IsUnder-head : (s : Slab T) (id : ℕ) (k : ℕ) (r : T) (items rest : List (ℕ × T)) → IsSound id_of s → items ≡ (k, r) ∷ rest → id_of r ≡ id → IsLeft id_of s id items → IsUnder id_of shown s k id
  IsUnder-head s id k r items rest sound is n left = IsUnder-at s k id r sound (left.held (k, r) (subst (λ xs. Contains xs (k, r)) (sym is) (0, omega arith, refl))) n

  -- the keys do not matter to what is shown
  shown_alike : (i j : ℕ) (slots : List (Option T)) → map (pair id_of shown) (entries_from i slots) ≡ map (pair id_of shown) (entries_from j slots)
  shown_alike i j [] = refl
  shown_alike i j (None ∷ rest) = shown_alike (i + 1) (j + 1) rest
  shown_alike i j (Some r ∷ rest) = ap (λ xs. (id_of r, shown r) ∷ xs) (shown_alike (i + 1) (j + 1) rest)

  slab_of : List (Option T) → Slab T
  slab_of slots = record { slots = slots; vacant_key = 0; capacity = 0 }

  len_of_slots : (slots : List (Option T)) → ((i j : ℕ) (r q : T) → get_or slots i None ≡ Some r → get_or slots j None ≡ Some q → id_of r ≡ id_of q → i ≡ j) → map.len (map.from_entries {R = nat_cmp} (map (pair id_of shown) (entries_from 0 slots))) ≡ count_by is_some slots
  unfolding slab_of
  len_of_slots [] apart = map.len-empty nat_cmp X
  len_of_slots (None ∷ rest) apart =
      let step : map.len (map.from_entries {R = nat_cmp} (map (pair id_of shown) (entries_from 1 rest))) ≡ count_by is_some rest =
      ap (λ xs. map.len (map.from_entries {R = nat_cmp} xs)) (shown_alike 1 0 rest) ∙ len_of_slots rest (λ i j r q a b e. suc_injective (apart (suc i) (suc j) r q a b e)) in
      omega (arith, step, sum_by-cons (λ o. cond (is_some o) 1 0) None rest)
    where
      suc_injective : {i j : ℕ} → suc i ≡ suc j → i ≡ j
      suc_injective e = omega arith
  len_of_slots (Some r ∷ rest) apart =
      let m = map.from_entries {R = nat_cmp} (map (pair id_of shown) (entries_from 1 rest)) in
      let rest_is : map.len m ≡ count_by is_some rest = ap (λ xs. map.len (map.from_entries {R = nat_cmp} xs)) (shown_alike 1 0 rest) ∙ len_of_slots rest (λ i j p q a b e. suc_injective (apart (suc i) (suc j) p q a b e)) in
      let absent : map.get m (id_of r) ≡ None = ap (λ xs. map.get (map.from_entries {R = nat_cmp} xs) (id_of r)) (shown_alike 1 0 rest) ∙ get-absent (slab_of rest) (id_of r) (λ key q at is. apart_heads (apart (suc key) 0 q r at refl is)) in
      let step : map.len (map.insert m (id_of r) (shown r)) ≡ map.len m + 1 = map.len-insert nat_cmp_total m (id_of r) (shown r) ∙ ap (λ o. cond (is_some o) (map.len m) (map.len m + 1)) absent in
      omega (arith, step, rest_is, sum_by-cons (λ o. cond (is_some o) 1 0) (Some r) rest)
    where
      suc_injective : {i j : ℕ} → suc i ≡ suc j → i ≡ j
      suc_injective e = omega arith

      apart_heads : {i : ℕ} → suc i ≡ 0 → ⊥
      apart_heads e = omega arith

  pub len-contents : (s : Slab T) → IsDistinct id_of s → map.len (contents id_of shown s) ≡ slab_len s
  len-contents s apart = len_of_slots s.slots apart

module _ {X : Type 0} where
  -- to remove what is not there, or to insert what is there already, changes nothing
  pub remove-same : (m : map.FinMap nat_cmp X) (k : ℕ) → map.get m k ≡ None → map.remove m k ≡ m
  remove-same m k h = map.same_map nat_cmp_total map.nat_cmp-IsAntisymmetric _ _ (λ q.
      map.get-remove nat_cmp_total m k q
      ∙ ap (λ b. cond b None (map.get m q)) (unsigned_tied q k)
      ∙ elim (q == k) as (λ b. (q == k) ≡ b → cond b None (map.get m q) ≡ map.get m q) [
        | true ↦ λ e. sym h ∙ ap (map.get m) (sym (eqb-true q k e))
        | false ↦ λ e. refl
      ] refl)

  pub insert-same : (m : map.FinMap nat_cmp X) (k : ℕ) (x : X) → map.get m k ≡ Some x → map.insert m k x ≡ m
  insert-same m k x h = map.same_map nat_cmp_total map.nat_cmp-IsAntisymmetric _ _ (λ q.
      map.get-insert nat_cmp_total m k x q
      ∙ ap (λ b. cond b (Some x) (map.get m q)) (unsigned_tied q k)
      ∙ elim (q == k) as (λ b. (q == k) ≡ b → cond b (Some x) (map.get m q) ≡ map.get m q) [
        | true ↦ λ e. sym h ∙ ap (map.get m) (sym (eqb-true q k e))
        | false ↦ λ e. refl
      ] refl)

  -- a removal takes back an insertion under a free key
  pub remove-insert : (m : map.FinMap nat_cmp X) (k : ℕ) (x : X) → map.get m k ≡ None → map.remove (map.insert m k x) k ≡ m
  remove-insert m k x h = map.same_map nat_cmp_total map.nat_cmp-IsAntisymmetric _ _ (λ q.
      map.get-remove nat_cmp_total (map.insert m k x) k q
      ∙ ap (λ b. cond b None (map.get (map.insert m k x) q)) (unsigned_tied q k)
      ∙ ap (λ o. cond (q == k) None o) (map.get-insert nat_cmp_total m k x q ∙ ap (λ b. cond b (Some x) (map.get m q)) (unsigned_tied q k))
      ∙ elim (q == k) as (λ b. (q == k) ≡ b → cond b None (cond b (Some x) (map.get m q)) ≡ map.get m q) [
        | true ↦ λ e. sym h ∙ ap (map.get m) (sym (eqb-true q k e))
        | false ↦ λ e. refl
      ] refl)

  pub get-inserted : (m : map.FinMap nat_cmp X) (k : ℕ) (x : X) → map.get (map.insert m k x) k ≡ Some x
  get-inserted m k x = map.get-insert nat_cmp_total m k x k ∙ ap (λ b. cond b (Some x) (map.get m k)) (unsigned_tied k k ∙ same k)
    where
      same : (n : ℕ) → (n == n) ≡ true
      same n = grind (arith, nat_tests)

module _ {T X : Type 0} (id_of : T → ℕ) (shown : T → X) where
  pub Replaces-new : (s : Slab T) (k : ℕ) (r : T) → get s k ≡ None → IsAbsent id_of s (id_of r) → Replaces id_of shown s k r
  Replaces-new s k r vacant absent = record {
    same = λ old at. absurd (cc);
    others = λ i q i_not at. absent i q at;
  }

  pub IsAbsent-from_get : (s : Slab T) (id : ℕ) → IsDistinct id_of s → map.get (contents id_of shown s) id ≡ None → IsAbsent id_of s id
  IsAbsent-from_get s id apart none key r at named =
      some_none (sym (get-from_Stands id_of shown s apart id (shown r) (record { key = key; held = r; at = at; named = named; shows = refl })) ∙ none)
    where
      some_none : {x : X} → Some x ≡ None → ⊥
      some_none e = cc

  -- what a search by keys finds, the map has
  pub is_some-contents : (s : Slab T) (id : ℕ) (o : Option ℕ) → IfSome o (λ key. IsUnder id_of shown s key id) → IfNone o (map.get (contents id_of shown s) id ≡ None) → is_some o ≡ is_some (map.get (contents id_of shown s) id)
  is_some-contents s id None found absent = ap is_some (sym absent)
  is_some-contents s id (Some key) found absent = ap is_some (sym (found.there found.held found.at))

module _ {T X : Type 0} (id_of : T → ℕ) (shown : T → X) where
  some_none : {r : T} → Some r ≡ None → ⊥
  some_none e = cc

  pub IsDistinct-removed : (s t : Slab T) (k : ℕ) → IsDistinct id_of s → Updates s t k None → IsDistinct id_of t
  IsDistinct-removed s t k apart u i j p q at_i at_j same =
      let i_not : i ≢ k = λ (is : i ≡ k). some_none (sym at_i ∙ ap (get t) is ∙ u.changed) in
      let j_not : j ≢ k = λ (is : j ≡ k). some_none (sym at_j ∙ ap (get t) is ∙ u.changed) in
      apart i j p q (sym (u.others i i_not) ∙ at_i) (sym (u.others j j_not) ∙ at_j) same

  pub contents-removed : (s t : Slab T) (k : ℕ) (r : T) → IsDistinct id_of s → get s k ≡ Some r → Updates s t k None → contents id_of shown t ≡ map.remove (contents id_of shown s) (id_of r)
  contents-removed s t k r apart held u =
      let apart' = IsDistinct-removed s t k apart u in
      map.same_map nat_cmp_total map.nat_cmp-IsAntisymmetric _ _ (λ q.
      elim (q == id_of r) as (λ b. (q == id_of r) ≡ b → map.get (contents id_of shown t) q ≡ cond b None (map.get (contents id_of shown s) q)) [
        | true ↦ λ e. get-absent id_of shown t q (λ key p at named.
            let key_not : key ≢ k = λ (is : key ≡ k). some_none (sym at ∙ ap (get t) is ∙ u.changed) in
            key_not (apart key k p r (sym (u.others key key_not) ∙ at) held (named ∙ eqb-true q (id_of r) e)))
        | false ↦ λ e. same_option id_of shown _ _
            (λ x h. let o = Stands-from_get id_of shown t q x h in
            let key_not : o.key ≢ k = λ (is : o.key ≡ k). some_none (sym o.at ∙ ap (get t) is ∙ u.changed) in
            get-from_Stands id_of shown s apart q x (record { key = o.key; held = o.held; at = sym (u.others o.key key_not) ∙ o.at; named = o.named; shows = o.shows }))
            (λ x h. let o = Stands-from_get id_of shown s q x h in
            let key_not : o.key ≢ k = λ (is : o.key ≡ k). tested q e (sym o.named ∙ ap id_of (same_held (sym o.at ∙ ap (get s) is ∙ held))) in
            get-from_Stands id_of shown t apart' q x (record { key = o.key; held = o.held; at = u.others o.key key_not ∙ o.at; named = o.named; shows = o.shows }))
      ] refl
      ∙ ap (λ b. cond b None (map.get (contents id_of shown s) q)) (sym (unsigned_tied q (id_of r)))
      ∙ sym (map.get-remove nat_cmp_total (contents id_of shown s) (id_of r) q))
    where
      tested : (q : ℕ) → (q == id_of r) ≡ false → q ≢ id_of r
      tested q f e = grind (arith, nat_tests)

      same_held : {a b : T} → Some a ≡ Some b → a ≡ b
      same_held e = cc
