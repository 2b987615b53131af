-- The octets of a memory in the order of their addresses.
use Rattle.std.proofs.Common.{◌≡◌, ℕ, suc, ◌+◌, ◌<◌, ◌≤◌, List, [], ◌∷◌, ◌++◌, length, map, refl, sym, ap, ◌∙◌, arith, append_assoc}
use Rattle.std.specs.declared.cmp.Ordering.{Ordering}
use Rattle.std.specs.declared.cmp.Ordering.TheVariants.{Less}
use Rattle.std.specs.Ordering.{nat_cmp}
use Rattle.std.specs.Cmp.{nat_cmp_total}
use Rattle.std.specs.FinMap.{empty, entries, from_entries, put, len-empty, len-entries, entries-insert}
use Rattle.std.specs.FinMap.Entries.{by_order}
use Rattle.std.proofs.lemmas.Bool.Decides.{nat_tests}
use Rattle.std.proofs.lemmas.List.{take_at, drop_at, map-append, nil_from_length, append-nil}
use Rattle.ocp_profile.specs.declared.profile.Profile.{Profile}
use Rattle.ocp_regions.specs.Memory.{Octets, entries_from, memory_of}
use Rattle.ocp_saved.specs.InOrder.{octets_in_order, memory_with, HasRegions}

-- the keys rise from a bound on
abbrev Rises : ℕ → List (ℕ × ℕ) → Type 0
Rises low [] = Unit {0}
Rises low (e ∷ es) = (low ≤ e.0) × Rises (suc e.0) es

rises_below : (low first : ℕ) (es : List (ℕ × ℕ)) → low ≤ first → Rises first es → Rises low es
rises_below low first [] h r = tt
rises_below low first (e ∷ es) h r = (omega (arith, r.0), r.1)

rises_from : (os : List ℕ) (low first : ℕ) (rest : List (ℕ × ℕ)) → low ≤ first → Rises (first + length os) rest → Rises low (entries_from first os ++ rest)
rises_from [] low first rest h r = rises_below low (first + 0) rest (omega (arith, h)) r
rises_from (o ∷ os) low first rest h r =
    (h, rises_from os (suc first) (first + 1) rest (omega arith) (rises_below (first + 1 + length os) (first + suc (length os)) rest (omega arith) r))

is_less : (x y : ℕ) → x < y → nat_cmp x y ≡ Less
is_less x y h = grind (arith, nat_tests)

put_first : (e : ℕ × ℕ) (es : List (ℕ × ℕ)) → Rises (suc e.0) es → put nat_cmp e.0 e.1 es ≡ e ∷ es
put_first e [] r = refl
put_first e (f ∷ fs) r = ap (λ (o : Ordering). by_order o ((e.0, e.1) ∷ f ∷ fs) ((f.0, e.1) ∷ fs) (f ∷ put nat_cmp e.0 e.1 fs)) (is_less e.0 f.0 (omega (arith, r.0)))

no_entries : entries (empty {X = ℕ} {R = nat_cmp}) ≡ []
no_entries = nil_from_length _ (sym (len-entries _) ∙ len-empty nat_cmp ℕ)

-- entries whose keys rise are those of their map
entries_rising : (es : List (ℕ × ℕ)) (low : ℕ) → Rises low es → entries (from_entries {R = nat_cmp} es) ≡ es
entries_rising [] low r = no_entries
entries_rising (e ∷ es) low r =
    entries-insert nat_cmp_total (from_entries es) e.0 e.1
    ∙ ap (put nat_cmp e.0 e.1) (entries_rising es (suc e.0) r.1)
    ∙ put_first e es r.1

octets_placed : (os : List ℕ) (first : ℕ) → map (λ (e : ℕ × ℕ). e.1) (entries_from first os) ≡ os
octets_placed [] first = refl
octets_placed (o ∷ os) first = ap (λ r. o ∷ r) (octets_placed os (first + 1))

pub octets_of_regions : (s a w : List ℕ) → length s ≡ 4096 → length a ≡ 256 → octets_in_order (memory_of s a w) ≡ s ++ (a ++ w)
unfolding octets_in_order memory_of
octets_of_regions s a w ls la =
    let x = entries_from 0x1000_0000 s in
    let y = entries_from 0x2000_0000 a in
    let z = entries_from 0x3000_0000 w in
    let second = λ (e : ℕ × ℕ). e.1 in
    let last : Rises (0x2000_0000 + length a) (z ++ []) = rises_from w _ 0x3000_0000 [] (omega (arith, la)) tt in
    let middle : Rises (0x1000_0000 + length s) (y ++ (z ++ [])) = rises_from a _ 0x2000_0000 _ (omega (arith, ls)) last in
    let all : Rises 0 (x ++ (y ++ (z ++ []))) = rises_from s 0 0x1000_0000 _ (omega arith) middle in
    let regrouped : x ++ (y ++ (z ++ [])) ≡ (x ++ y) ++ z = ap (λ r. x ++ (y ++ r)) (append-nil z) ∙ sym (append_assoc x y z) in
    ap (λ es. map second (entries (from_entries {R = nat_cmp} es))) (sym regrouped)
    ∙ ap (map second) (entries_rising _ 0 all)
    ∙ ap (map second) (ap (λ r. x ++ (y ++ r)) (append-nil z))
    ∙ map-append second x (y ++ z)
    ∙ ap (λ r. map second x ++ r) (map-append second y z)
    ∙ ap (λ r. r ++ (map second y ++ map second z)) (octets_placed s 0x1000_0000)
    ∙ ap (λ r. s ++ (r ++ map second z)) (octets_placed a 0x2000_0000)
    ∙ ap (λ r. s ++ (a ++ r)) (octets_placed w 0x3000_0000)

pub with_parts : (s a w : List ℕ) → length s ≡ 4096 → length a ≡ 256 → memory_with (s ++ (a ++ w)) ≡ memory_of s a w
unfolding memory_with
with_parts s a w ls la =
    rw (take_at s (a ++ w) 4096 ls, drop_at s (a ++ w) 4096 ls, take_at a w 256 la, drop_at a w 256 la) refl

pub made_again : (profile : Profile) (m : Octets) → HasRegions profile m → memory_with (octets_in_order m) ≡ m
made_again profile m h =
    ap (λ x. memory_with (octets_in_order x)) h.regions
    ∙ ap memory_with (octets_of_regions h.stack h.arguments h.work h.stack_length h.arguments_length)
    ∙ with_parts h.stack h.arguments h.work h.stack_length h.arguments_length
    ∙ sym h.regions
