-- What is left of a memory that is cleared: its addresses.
use Rattle.std.proofs.Common.{◌≡◌, ◌≤◌, ℕ, zero, suc, ◌+◌, ◌-◌, ◌%◌, ◌^◌, List, [], ◌∷◌, ◌++◌, length, map, replicate, Option, Some, None, Result, Ok, Err, Bool, true, false, ◌&&◌, cond, refl, sym, ap, ◌∙◌, arith, length-append}
use Rattle.std.specs.Prelude.{is_some, slice_get, nat_lt, if◌then◌else◌, not}
use Rattle.std.proofs.lemmas.List.{length-replicate}
use Rattle.std.proofs.lemmas.Bool.Decides.{nat_tests}
use Rattle.std.specs.Ordering.{nat_cmp}
use Rattle.std.specs.Cmp.{nat_cmp_total}
use Rattle.std.specs.FinMap.{entries, find, get, insert, get-entries, get-from_entries, get-insert, same_map, nat_cmp-IsAntisymmetric}
use Rattle.std.specs.BTreeMap.{is_at}
use Rattle.ocp_regions.specs.declared.fault.AccessFault.{AccessFault}
use Rattle.ocp_profile.specs.declared.profile.Profile.{Profile}
use Rattle.ocp_regions.specs.Memory.{Octets, entries_from, memory_of, work_octets, zeros, zeros_over, octets_at, in_front, with_octets, with_arguments, memory_after_store, low_octets, meets_arguments}
use Rattle.ocp_regions.proofs.Entries.{octet_in, placed_octet, or_else, get_memory}
use Rattle.ocp_regions.proofs.Written.{zeros_again, read_arguments, length_low, same_memory, same_work_length}
use Rattle.ocp_regions.specs.declared.fault.AccessFault.TheVariants.{AccessOutside, WriteToArguments}

-- zero where there is an octet
abbrev pub zeroed : Option ℕ → Option ℕ
zeroed (Some octet) = Some 0
zeroed None = None

zero_or : (b : Bool) (v : ℕ) (o : Option ℕ) → cond b (Some 0) (zeroed o) ≡ zeroed (cond b (Some v) o)
zero_or true v o = refl
zero_or false v o = refl

find_zero : (es : List (ℕ × ℕ)) (q : ℕ) → find nat_cmp q (map (λ (address : ℕ). (address, 0)) (map (λ (e : ℕ × ℕ). e.0) es)) ≡ zeroed (find nat_cmp q es)
find_zero [] q = refl
find_zero (e ∷ es) q = ap (cond (is_at (nat_cmp q) e.0) (Some 0)) (find_zero es q) ∙ zero_or (is_at (nat_cmp q) e.0) e.1 (find nat_cmp q es)

-- a cleared memory at an address
pub get-cleared : (m : Octets) (q : ℕ) → get (zeros_over m) q ≡ zeroed (get m q)
unfolding zeros_over
get-cleared m q = get-from_entries nat_cmp_total (map (λ address. (address, 0)) (map (λ e. e.0) (entries m))) q ∙ find_zero (entries m) q ∙ ap zeroed (sym (get-entries m q))

pub same : (m n : Octets) → ((q : ℕ) → get m q ≡ get n q) → m ≡ n
same m n h = same_map nat_cmp_total nat_cmp-IsAntisymmetric m n h

-- memories with the same addresses are cleared to the same
same_cleared : (m n : Octets) → ((q : ℕ) → zeroed (get m q) ≡ zeroed (get n q)) → zeros_over m ≡ zeros_over n
same_cleared m n h = same (zeros_over m) (zeros_over n) (λ q. get-cleared m q ∙ h q ∙ sym (get-cleared n q))

zeroed_else : (x y : Option ℕ) → zeroed (or_else x y) ≡ or_else (zeroed x) (zeroed y)
zeroed_else (Some x) y = refl
zeroed_else None y = refl

zeroed_if : (b : Bool) (o : Option ℕ) → zeroed (if b then None else o) ≡ (if b then None else zeroed o)
zeroed_if true o = refl
zeroed_if false o = refl

zeros_at : (os : List ℕ) (i : ℕ) → zeroed (slice_get os i) ≡ slice_get (replicate (length os) 0) i
zeros_at [] i = refl
zeros_at (o ∷ os) zero = refl
zeros_at (o ∷ os) (suc i) = zeros_at os i

zeros_in : (os : List ℕ) (first q : ℕ) → zeroed (octet_in (entries_from first os) q) ≡ octet_in (entries_from first (replicate (length os) 0)) q
zeros_in os first q =
    ap zeroed (placed_octet os first q) ∙ zeroed_if (nat_lt q first) (slice_get os (q - first))
    ∙ ap (λ o. if nat_lt q first then None else o) (zeros_at os (q - first))
    ∙ sym (placed_octet (replicate (length os) 0) first q)

-- regions are cleared one by one
pub cleared_regions : (s a w : List ℕ) → memory_of (replicate (length s) 0) (replicate (length a) 0) (replicate (length w) 0) ≡ zeros_over (memory_of s a w)
cleared_regions s a w = same _ _ (λ q.
    let x = octet_in (entries_from 0x1000_0000 s) q in
    let y = octet_in (entries_from 0x2000_0000 a) q in
    let z = octet_in (entries_from 0x3000_0000 w) q in
    sym (
    get-cleared (memory_of s a w) q ∙ ap zeroed (get_memory s a w q)
    ∙ zeroed_else x (or_else y z) ∙ ap (or_else (zeroed x)) (zeroed_else y z)
    ∙ ap (λ o. or_else o (or_else (zeroed y) (zeroed z))) (zeros_in s 0x1000_0000 q)
    ∙ ap (λ o. or_else (octet_in (entries_from 0x1000_0000 (replicate (length s) 0)) q) (or_else o (zeroed z))) (zeros_in a 0x2000_0000 q)
    ∙ ap (λ o. or_else (octet_in (entries_from 0x1000_0000 (replicate (length s) 0)) q) (or_else (octet_in (entries_from 0x2000_0000 (replicate (length a) 0)) q) o)) (zeros_in w 0x3000_0000 q)
    ∙ sym (get_memory _ _ _ q)))

-- an octet put where there is one keeps the addresses
there_too : (b : Bool) (v : ℕ) (o : Option ℕ) → (b ≡ true → is_some o ≡ true) → zeroed (cond b (Some v) o) ≡ zeroed o
there_too true v (Some x) h = refl
there_too true v None h = absurd (bad (h refl))
  where
    bad : false ≡ true → ⊥
    bad e = absurd cc
there_too false v o h = refl

pub at_same : (q a : ℕ) → is_at (nat_cmp q) a ≡ true → q ≡ a
at_same q a h = grind (arith, nat_tests)

kept_at : (m : Octets) (a v : ℕ) → is_some (get m a) ≡ true → zeros_over (insert m a v) ≡ zeros_over m
kept_at m a v h = same_cleared (insert m a v) m (λ q.
    ap zeroed (get-insert nat_cmp_total m a v q)
    ∙ there_too (is_at (nat_cmp q) a) v (get m q) (λ e. ap (λ x. is_some (get m x)) (at_same q a e) ∙ h))

some_zeroed : (o : Option ℕ) → is_some (zeroed o) ≡ is_some o
some_zeroed (Some x) = refl
some_zeroed None = refl

pub some_in_front : (o : Option ℕ) (os : Option (List ℕ)) → is_some (in_front o os) ≡ (is_some o && is_some os)
some_in_front (Some x) (Some xs) = refl
some_in_front (Some x) None = refl
some_in_front None os = refl

-- which octets are there is known from the addresses
there_at : (m n : Octets) (q : ℕ) → zeros_over m ≡ zeros_over n → is_some (get m q) ≡ is_some (get n q)
there_at m n q e =
    sym (some_zeroed (get m q)) ∙ ap is_some (sym (get-cleared m q)) ∙ ap (λ x. is_some (get x q)) e
    ∙ ap is_some (get-cleared n q) ∙ some_zeroed (get n q)

pub there_from : (m n : Octets) (q k : ℕ) → zeros_over m ≡ zeros_over n → is_some (octets_at m q k) ≡ is_some (octets_at n q k)
there_from m n q zero e = refl
there_from m n q (suc k) e =
    let next = (q + 1) % 2 ^ 64 in
    some_in_front (get m q) (octets_at m next k)
    ∙ ap (λ b. b && is_some (octets_at m next k)) (there_at m n q e)
    ∙ ap (λ b. is_some (get n q) && b) (there_from m n next k e)
    ∙ sym (some_in_front (get n q) (octets_at n next k))

first_true : (a b : Bool) → (a && b) ≡ true → a ≡ true
first_true true b h = refl
first_true false b h = absurd cc

second_true : (a b : Bool) → (a && b) ≡ true → b ≡ true
second_true true b h = h
second_true false b h = absurd cc

-- so do octets put where there are some
kept_from : (m : Octets) (q : ℕ) (os : List ℕ) → is_some (octets_at m q (length os)) ≡ true → zeros_over (with_octets m q os) ≡ zeros_over m
kept_from m q [] h = refl
kept_from m q (o ∷ os) h =
    let next = (q + 1) % 2 ^ 64 in
    let both = sym (some_in_front (get m q) (octets_at m next (length os))) ∙ h in
    let here = kept_at m q o (first_true _ _ both) in
    kept_from (insert m q o) next os (there_from (insert m q o) m next (length os) here ∙ second_true _ _ both) ∙ here

pub stored_if : (there met : Bool) (m new written : Octets) → (if not there then Err AccessOutside else if met then Err WriteToArguments else Ok written) ≡ Ok new → (there ≡ true) × (written ≡ new)
stored_if true true m new written e = absurd cc
stored_if true false m new written e = (refl, same_Ok written new e)
  where
    same_Ok : (a b : Octets) → ◌≡◌ {A = Result Octets AccessFault} (Ok a) (Ok b) → a ≡ b
    same_Ok a b e = cc
stored_if false met m new written e = absurd cc

pub cleared_store : (old new : Octets) (address n number : ℕ) → memory_after_store old address n number ≡ Ok new → zeros_over new ≡ zeros_over old
cleared_store old new address n number e =
    let is = stored_if (is_some (octets_at old address n)) (meets_arguments address n) old new (with_octets old address (low_octets n number)) e in
    ap zeros_over (sym is.1) ∙ kept_from old address (low_octets n number) (ap (λ k. is_some (octets_at old address k)) (length_low n number) ∙ is.0)

-- a profile's memory
pub cleared_zeros : (profile : Profile) → zeros_over (zeros profile) ≡ zeros profile
unfolding zeros
cleared_zeros profile =
    sym (cleared_regions (replicate 4096 0) (replicate 256 0) (replicate (work_octets profile) 0))
    ∙ zeros_again (replicate 4096 0) (replicate 256 0) (replicate (work_octets profile) 0) profile (length-replicate {A = ℕ} 4096 0) (length-replicate {A = ℕ} 256 0) (length-replicate {A = ℕ} (work_octets profile) 0)

arguments_there : (profile : Profile) → is_some (octets_at (zeros profile) 0x2000_0000 256) ≡ true
unfolding zeros
arguments_there profile = ap is_some (read_arguments (replicate 4096 0) (replicate 256 0) (replicate (work_octets profile) 0) 0 256 0x2000_0000 (length-replicate {A = ℕ} 4096 0) (length-replicate {A = ℕ} 256 0) (omega (arith, length-replicate {A = ℕ} 256 0)) refl)

pub cleared_arguments : (profile : Profile) (octets : List ℕ) → length octets ≤ 256 → zeros_over (with_arguments (zeros profile) octets) ≡ zeros profile
unfolding with_arguments
cleared_arguments profile octets h =
    let zs = octets ++ replicate (256 - length octets) 0 in
    let n : length zs ≡ 256 = simp (length-append, length-replicate) (omega (arith, h)) in
    kept_from (zeros profile) 0x2000_0000 zs (ap (λ k. is_some (octets_at (zeros profile) 0x2000_0000 k)) n ∙ arguments_there profile)
    ∙ cleared_zeros profile

-- ---- memories with the same addresses

module _ (s a w s' a' w' : List ℕ) (ls : length s ≡ 4096) (ls' : length s' ≡ 4096) (la : length a ≡ 256) (la' : length a' ≡ 256) where
  -- if the work regions have the same length, the addresses are the same
  pub same_addresses : length w ≡ length w' → zeros_over (memory_of s a w) ≡ zeros_over (memory_of s' a' w')
  same_addresses l =
      sym (cleared_regions s a w)
      ∙ same_memory _ _ _ _ _ _ (ap (λ n. replicate n 0) (ls ∙ sym ls')) (ap (λ n. replicate n 0) (la ∙ sym la')) (ap (λ n. replicate n 0) l)
      ∙ cleared_regions s' a' w'

  -- and only then
  pub as_long : zeros_over (memory_of s a w) ≡ zeros_over (memory_of s' a' w') → length w ≡ length w'
  as_long e =
      sym (length-replicate {A = ℕ} (length w) 0)
      ∙ same_work_length (replicate (length s) 0) (replicate (length a) 0) (replicate (length w) 0) (replicate (length s') 0) (replicate (length a') 0) (replicate (length w') 0)
      (length-replicate {A = ℕ} (length s) 0 ∙ ls) (length-replicate {A = ℕ} (length s') 0 ∙ ls') (length-replicate {A = ℕ} (length a) 0 ∙ la) (length-replicate {A = ℕ} (length a') 0 ∙ la')
      (cleared_regions s a w ∙ e ∙ sym (cleared_regions s' a' w'))
      ∙ length-replicate {A = ℕ} (length w') 0

-- ---- the regions of a profile

-- the addresses of regions that are as long as the profile says
pub addresses_of : (profile : Profile) (s a w : List ℕ) → length s ≡ 4096 → length a ≡ 256 → length w ≡ work_octets profile → zeros_over (memory_of s a w) ≡ zeros profile
addresses_of profile s a w l k j = sym (cleared_regions s a w) ∙ zeros_again s a w profile l k j
