-- What a finite map of entries has at a key.
use Rattle.std.proofs.Common.{◌≡◌, ℕ, List, [], ◌∷◌, ◌++◌, Option, Some, None, cond, refl, sym, ap, ◌∙◌}
use Rattle.std.specs.Ordering.{nat_cmp}
use Rattle.std.specs.Cmp.{nat_cmp_total, eq_by_cmp_equiv}
use Rattle.std.specs.FinMap.{from_entries, find, get, insert, get-from_entries, get-insert, same_map, nat_cmp-IsAntisymmetric}
use Rattle.std.specs.BTreeMap.{is_at}
use Rattle.std.specs.Map.{lookup}
use Rattle.ocp_regions.specs.Memory.{entries_from, memory_of}
use Rattle.std.proofs.Common.{◌+◌, ◌-◌, ◌<◌, ◌≤◌, arith, true, false, Bool}
use Rattle.std.proofs.Common.{length, get_or}
use Rattle.std.proofs.lemmas.Option.{slice_get-get_or, slice_get_past}
use Rattle.std.specs.Prelude.{slice_get, nat_lt, if◌then◌else◌}
use Rattle.std.proofs.lemmas.Bool.Decides.{nat_tests}

-- what the entries have at an address
abbrev pub octet_in : List (ℕ × ℕ) → ℕ → Option ℕ
octet_in es q = lookup (is_at (nat_cmp q)) es

find_octet : (es : List (ℕ × ℕ)) (q : ℕ) → find nat_cmp q es ≡ octet_in es q
find_octet [] q = refl
find_octet (e ∷ es) q = ap (cond (is_at (nat_cmp q) e.0) (Some e.1)) (find_octet es q)

pub get_octet : (es : List (ℕ × ℕ)) (q : ℕ) → get (from_entries {R = nat_cmp} es) q ≡ octet_in es q
get_octet es q = get-from_entries nat_cmp_total es q ∙ find_octet es q

-- entries that differ at one address make maps that differ there
pub one_set : (es fs : List (ℕ × ℕ)) (a v : ℕ) → ((q : ℕ) → octet_in fs q ≡ cond (is_at (nat_cmp a) q) (Some v) (octet_in es q)) →
    from_entries {R = nat_cmp} fs ≡ insert (from_entries es) a v
one_set es fs a v h = same_map nat_cmp_total nat_cmp-IsAntisymmetric _ _ (λ q.
    get_octet fs q ∙ h q ∙ ap (λ b. cond b (Some v) (octet_in es q)) ((eq_by_cmp_equiv nat_cmp_total).symm a q)
    ∙ sym (get-insert nat_cmp_total (from_entries es) a v q ∙ ap (cond (is_at (nat_cmp q) a) (Some v)) (get_octet es q)))

same_either_way : (b : Bool) (x : Option ℕ) → x ≡ (if b then x else x)
same_either_way true x = refl
same_either_way false x = refl

-- a region has its octets from its first address on
pub placed_octet : (os : List ℕ) (first q : ℕ) → octet_in (entries_from first os) q ≡ (if nat_lt q first then None else slice_get os (q - first))
placed_octet [] first q = same_either_way (nat_lt q first) None
placed_octet (o ∷ os) first q = grind (arith, nat_tests, placed_octet os (first + 1) q)

-- the first that is there
abbrev pub or_else : Option ℕ → Option ℕ → Option ℕ
or_else None y = y
or_else (Some x) y = Some x

front : (b : Bool) (v : ℕ) (r s : Option ℕ) → cond b (Some v) (or_else r s) ≡ or_else (cond b (Some v) r) s
front true v r s = refl
front false v r s = refl

-- the entries of the first list come first
pub octet_in-append : (xs ys : List (ℕ × ℕ)) (q : ℕ) → octet_in (xs ++ ys) q ≡ or_else (octet_in xs q) (octet_in ys q)
octet_in-append [] ys q = refl
octet_in-append (x ∷ xs) ys q = ap (cond (is_at (nat_cmp q) x.0) (Some x.1)) (octet_in-append xs ys q) ∙ front (is_at (nat_cmp q) x.0) x.1 (octet_in xs q) (octet_in ys q)

-- the memory at an address: the first region that has it
pub get_memory : (stack arguments work : List ℕ) (q : ℕ) → get (memory_of stack arguments work) q ≡
    or_else (octet_in (entries_from 0x1000_0000 stack) q) (or_else (octet_in (entries_from 0x2000_0000 arguments) q) (octet_in (entries_from 0x3000_0000 work) q))
unfolding memory_of
get_memory stack arguments work q =
    let s = entries_from 0x1000_0000 stack in
    let a = entries_from 0x2000_0000 arguments in
    let w = entries_from 0x3000_0000 work in
    get_octet ((s ++ a) ++ w) q ∙ octet_in-append (s ++ a) w q ∙ ap (λ o. or_else o (octet_in w q)) (octet_in-append s a q) ∙ assoc (octet_in s q) (octet_in a q) (octet_in w q)
  where
    assoc : (x y z : Option ℕ) → or_else (or_else x y) z ≡ or_else x (or_else y z)
    assoc None y z = refl
    assoc (Some x) y z = refl

pub placed_at : (os : List ℕ) (first q : ℕ) → first ≤ q → octet_in (entries_from first os) q ≡ slice_get os (q - first)
placed_at os first q h = grind (arith, nat_tests, placed_octet os first q)

pub placed_inside : (os : List ℕ) (first q : ℕ) → first ≤ q → q - first < length os → octet_in (entries_from first os) q ≡ Some (get_or os (q - first) 0)
placed_inside os first q h l = placed_at os first q h ∙ slice_get-get_or os (q - first) 0 l

pub placed_outside : (os : List ℕ) (first q : ℕ) → first ≤ q → length os ≤ q - first → octet_in (entries_from first os) q ≡ None
placed_outside os first q h l = placed_at os first q h ∙ slice_get_past os (q - first) l
