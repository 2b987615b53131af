-- A total over the values of a map, when one of them is put in, replaced or dropped.
use Rattle.std.proofs.Common.{◌≡◌, ℕ, ◌+◌, List, [], ◌∷◌, map, length, Option, Some, None, Bool, true, false, cond, T, refl, sym, ap, subst, ◌∙◌, arith}
use Rattle.std.specs.Prelude.{not, ◌&&◌}
use Rattle.std.specs.List.{sum_by}
use Rattle.std.specs.declared.cmp.Ordering.{Ordering}
use Rattle.std.specs.declared.cmp.Ordering.TheVariants.{Less, Equal, Greater}
use Rattle.std.specs.Ordering.{is_lt, is_eq, eq_by_cmp, nat_cmp}
use Rattle.std.specs.Cmp.{nat_cmp_total, alike_right, eq_by_cmp_equiv}
use Rattle.std.proofs.lemmas.List.Sums.{sum_by-cons}
use Rattle.std.specs.FinMap.{FinMap, get, insert, remove, empty, values, entries, entries_sorted, entries-insert, entries-from_sorted, from_sorted, get-from_sorted, get-entries, get-remove, len-empty, len-entries, same_map, nat_cmp-IsAntisymmetric}
use Rattle.std.specs.FinMap.Entries.{put, find, is_sorted, where_key, below_all, by_order, find-where_key, is_sorted-where_key}

first : (a b : Bool) → T (a && b) → T a
first true b p = tt
first false b p = p

second : (a b : Bool) → T (a && b) → T b
second true b p = p
second false b p = absurd p

both : (a b : Bool) → T a → T b → T (a && b)
both true b p q = q
both false b p q = p

less : (o : Ordering) → T (is_lt o) → o ≡ Less
less Less p = refl
less Equal p = absurd p
less Greater p = absurd p

equal : (o : Ordering) → T (is_eq o) → o ≡ Equal
equal Less p = absurd p
equal Equal p = refl
equal Greater p = absurd p

module _ {X : Type 0} (f : X → ℕ) where
  -- of one entry, if it is there
  abbrev pub of : Option X → ℕ
  of None = 0
  of (Some x) = f x

  -- of all entries
  abbrev pub total : FinMap nat_cmp X → ℕ
  total m = sum_by f (values m)

  -- ---- lists of entries in rising order

  abbrev along : List (ℕ × X) → ℕ
  along [] = 0
  along (e ∷ es) = f e.1 + along es

  total-along : (es : List (ℕ × X)) → sum_by f (map (λ e. e.1) es) ≡ along es
  total-along [] = refl
  total-along (e ∷ es) = sum_by-cons f e.1 (map (λ x. x.1) es) ∙ ap (λ n. f e.1 + n) (total-along es)

  below_less : (x y : ℕ) (es : List (ℕ × X)) → nat_cmp x y ≡ Less → T (below_all nat_cmp y es) → T (below_all nat_cmp x es)
  below_less x y [] p h = tt
  below_less x y (e ∷ es) p h = both _ _ (subst (λ r. T (is_lt r)) (sym (nat_cmp_total.trans x y e.0 p (less _ (first _ _ h)))) tt) (below_less x y es p (second _ _ h))

  below_tied : (x y : ℕ) (es : List (ℕ × X)) → nat_cmp x y ≡ Equal → T (below_all nat_cmp y es) → T (below_all nat_cmp x es)
  below_tied x y [] p h = tt
  below_tied x y (e ∷ es) p h = both _ _ (subst (λ r. T (is_lt r)) (sym (nat_cmp_total.congr x y e.0 p)) (first _ _ h)) (below_tied x y es p (second _ _ h))

  find-below : (q : ℕ) (es : List (ℕ × X)) → T (below_all nat_cmp q es) → find nat_cmp q es ≡ None
  find-below q [] h = refl
  find-below q (e ∷ es) h = ap (λ r. cond (is_eq r) (Some e.1) (find nat_cmp q es)) (less _ (first _ _ h)) ∙ find-below q es (second _ _ h)

  along-put : (k : ℕ) (v : X) (es : List (ℕ × X)) → T (is_sorted nat_cmp es) → along (put nat_cmp k v es) + of (find nat_cmp k es) ≡ along es + f v
  along-put k v [] h = omega arith
  along-put k v (e ∷ es) h =
      elim (nat_cmp k e.0) as (λ r. nat_cmp k e.0 ≡ r → along (by_order r ((k, v) ∷ e ∷ es) ((e.0, v) ∷ es) (e ∷ put nat_cmp k v es)) + of (cond (is_eq r) (Some e.1) (find nat_cmp k es)) ≡ (f e.1 + along es) + f v) [
        | Less ↦ λ p. ap (λ o. (f v + (f e.1 + along es)) + of o) (find-below k es (below_less k e.0 es p (first _ _ h))) ∙ arrange_new (f v) (f e.1) (along es)
        | Equal ↦ λ p. arrange_same (f v) (f e.1) (along es)
        | Greater ↦ λ p. arrange_later (f e.1) (along (put nat_cmp k v es)) (of (find nat_cmp k es)) (along es) (f v) (along-put k v es (second _ _ h))
      ] refl
    where
      arrange_new : (a b t : ℕ) → (a + (b + t)) + 0 ≡ (b + t) + a
      arrange_new a b t = omega arith

      arrange_same : (a b t : ℕ) → (a + t) + b ≡ (b + t) + a
      arrange_same a b t = omega arith

      arrange_later : (b t' o t a : ℕ) → t' + o ≡ t + a → (b + t') + o ≡ (b + t) + a
      arrange_later b t' o t a e = omega arith

  along-without : (k : ℕ) (es : List (ℕ × X)) → T (is_sorted nat_cmp es) → along (where_key nat_cmp (λ x. not (eq_by_cmp nat_cmp k x)) es) + of (find nat_cmp k es) ≡ along es
  along-without k [] h = refl
  along-without k (e ∷ es) h =
      let left = where_key nat_cmp (λ x. not (eq_by_cmp nat_cmp k x)) es in
      let rest = along-without k es (second _ _ h) in
      elim (eq_by_cmp nat_cmp k e.0) as (λ t. eq_by_cmp nat_cmp k e.0 ≡ t → along (cond (not t) (e ∷ left) left) + of (cond t (Some e.1) (find nat_cmp k es)) ≡ f e.1 + along es) [
        | true ↦ λ t. arrange_gone (along left) (of (find nat_cmp k es)) (f e.1) (along es) rest (ap of (find-below k es (below_tied k e.0 es (equal _ (subst T (sym t) tt)) (first _ _ h))))
        | false ↦ λ t. arrange_left (along left) (of (find nat_cmp k es)) (f e.1) (along es) rest
      ] refl
    where
      arrange_gone : (l o a t : ℕ) → l + o ≡ t → o ≡ 0 → l + a ≡ a + t
      arrange_gone l o a t e z = omega arith

      arrange_left : (l o a t : ℕ) → l + o ≡ t → (a + l) + o ≡ a + t
      arrange_left l o a t e = omega arith

  entries-remove : (m : FinMap nat_cmp X) (k : ℕ) → entries (remove m k) ≡ where_key nat_cmp (λ x. not (eq_by_cmp nat_cmp k x)) (entries m)
  entries-remove m k = ap entries same ∙ entries-from_sorted nat_cmp without sorted
    where
      without : List (ℕ × X)
      without = where_key nat_cmp (λ x. not (eq_by_cmp nat_cmp k x)) (entries m)

      sorted : T (is_sorted nat_cmp without)
      sorted = is_sorted-where_key nat_cmp (λ x. not (eq_by_cmp nat_cmp k x)) (entries m) (entries_sorted m)

      turned : (b : Bool) (x : Option X) → cond (not b) x None ≡ cond b None x
      turned true x = refl
      turned false x = refl

      same : remove m k ≡ from_sorted {R = nat_cmp} without
      same = same_map nat_cmp_total nat_cmp-IsAntisymmetric (remove m k) (from_sorted {R = nat_cmp} without) (λ q.
          get-remove nat_cmp_total m k q ∙ sym (get-from_sorted nat_cmp without q sorted
          ∙ find-where_key nat_cmp (λ x. not (eq_by_cmp nat_cmp k x)) q (λ x t. ap (λ r. not (is_eq r)) (sym (alike_right nat_cmp_total q x k t))) (entries m)
          ∙ turned (eq_by_cmp nat_cmp k q) _ ∙ ap (λ b. cond b None (find nat_cmp q (entries m))) ((eq_by_cmp_equiv nat_cmp_total).symm k q) ∙ ap (λ o. cond (eq_by_cmp nat_cmp q k) None o) (sym (get-entries m q))))

  -- ---- maps

  total-is : (m : FinMap nat_cmp X) → total m ≡ along (entries m)
  total-is m = total-along (entries m)

  pub total-insert : (m : FinMap nat_cmp X) (k : ℕ) (v : X) → total (insert m k v) + of (get m k) ≡ total m + f v
  total-insert m k v =
      ap (λ n. n + of (get m k)) (total-is (insert m k v) ∙ ap along (entries-insert nat_cmp_total m k v))
      ∙ ap (λ o. along (put nat_cmp k v (entries m)) + of o) (get-entries m k)
      ∙ along-put k v (entries m) (entries_sorted m)
      ∙ ap (λ n. n + f v) (sym (total-is m))

  pub total-remove : (m : FinMap nat_cmp X) (k : ℕ) → total (remove m k) + of (get m k) ≡ total m
  total-remove m k =
      ap (λ n. n + of (get m k)) (total-is (remove m k) ∙ ap along (entries-remove m k))
      ∙ ap (λ o. along (where_key nat_cmp (λ x. not (eq_by_cmp nat_cmp k x)) (entries m)) + of o) (get-entries m k)
      ∙ along-without k (entries m) (entries_sorted m)
      ∙ sym (total-is m)

  pub total-empty : total empty ≡ 0
  total-empty = ap (λ es. sum_by f (map (λ e. e.1) es)) (none (entries empty) (sym (len-entries empty) ∙ len-empty nat_cmp X))
    where
      none : (es : List (ℕ × X)) → length es ≡ 0 → es ≡ []
      none [] e = refl
      none (x ∷ xs) e = absurd (omega arith)
