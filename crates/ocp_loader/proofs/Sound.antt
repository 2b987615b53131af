-- The line at a slot is the one at that place.
use Rattle.std.proofs.Common.{get_or, ◌≡◌, ℕ, zero, suc, ◌+◌, ◌*◌, ◌≤◌, ℤ, pos, negsuc, Bool, true, false, List, [], ◌∷◌, ◌++◌, length, Option, Some, None, IsSome, refl, ap, sym, ◌∙◌, subst, arith, length-append}
use Rattle.std.specs.Prelude.{is_some}
use Rattle.std.specs.List.{All}
use Rattle.std.proofs.lemmas.Option.{same_Some}
use Rattle.ocp_profile.specs.declared.profile.Profile.{Profile}
use Rattle.ocp_profile.specs.declared.profile.Profile.TheVariants.{Two}
use Rattle.bpf_types.specs.declared.line.Line.{Line}
use Rattle.bpf_types.specs.Line.{is_wide, IsLine}
use Rattle.bpf_decode.specs.Images.{image_of}
use Rattle.ocp_loader.specs.Image.{line_in, second_of, slots_of, by_slot, never_falls_through, target_of}
use Rattle.ocp_loader.specs.Places.{place_of, IsAt, IsPlaceOf, HasValidTarget}
use Rattle.ocp_loader.specs.Mirror.Reading.{IsPlain}
use Rattle.ocp_loader.specs.Mirror.Checks.{is_place, is_target}
use Rattle.ocp_loader.specs.Admitted.{IsLawful, IsAdmittedAs}
use Rattle.ocp_loader.proofs.Laid.{by_slot-append}
use Rattle.ocp_loader.proofs.Stay.{called_by}
use Rattle.ocp_loader.proofs.Octets.{length_image, place_by_slot}

-- one line before
later : (m : Line) (ls : List Line) (p : ℕ) (l : Line) → IsAt ls p l → IsAt (m ∷ ls) (length (slots_of m) + p) l
later m ls p l a = record {
  before = m ∷ a.before;
  after = a.after;
  order = ap (λ xs. m ∷ xs) a.order;
  place = place_by_slot (m ∷ a.before) ∙ length-append (slots_of m) (by_slot a.before) ∙ ap (λ n. length (slots_of m) + n) (sym (place_by_slot a.before) ∙ a.place);
}

at_first : (m : Line) (ls : List Line) (l : Line) → m ≡ l → IsAt (m ∷ ls) 0 l
at_first m ls l e = record { before = []; after = ls; order = ap (λ x. x ∷ ls) e; place = refl }

at_front : (m : Line) (b : Bool) → is_wide m ≡ b → (ls : List Line) → ((p : ℕ) (l : Line) → line_in (by_slot ls) p ≡ Some l → IsAt ls p l) →
    (p : ℕ) (l : Line) → line_in ((Some m ∷ second_of b) ++ by_slot ls) p ≡ Some l → IsAt (m ∷ ls) p l
at_front m b e ls rest zero l h = at_first m ls l (same_Some m l h)
at_front m false e ls rest (suc p) l h =
    let n : length (slots_of m) + p ≡ suc p = ap (λ b. length (Some m ∷ second_of b) + p) e ∙ omega arith in
    subst (λ k. IsAt (m ∷ ls) k l) n (later m ls p l (rest p l h))
at_front m true e ls rest (suc zero) l h = absurd cc
at_front m true e ls rest (suc (suc p)) l h =
    let n : length (slots_of m) + p ≡ suc (suc p) = ap (λ b. length (Some m ∷ second_of b) + p) e ∙ omega arith in
    subst (λ k. IsAt (m ∷ ls) k l) n (later m ls p l (rest p l h))

pub at_of : (ls : List Line) (p : ℕ) (l : Line) → line_in (by_slot ls) p ≡ Some l → IsAt ls p l
at_of [] p l h = absurd cc
at_of (m ∷ ls) p l h = at_front m (is_wide m) refl ls (at_of ls) p l h

seam : (xs : List (Option Line)) (l : Line) (ys : List (Option Line)) → line_in (xs ++ Some l ∷ ys) (length xs) ≡ Some l
seam [] l ys = refl
seam (x ∷ xs) l ys = seam xs l ys

pub of_at : (ls : List Line) (p : ℕ) (l : Line) → IsAt ls p l → line_in (by_slot ls) p ≡ Some l
of_at ls p l a =
    let n : p ≡ length (by_slot a.before) = sym a.place ∙ place_by_slot a.before in
    let e : by_slot ls ≡ by_slot a.before ++ Some l ∷ (second_of (is_wide l) ++ by_slot a.after) = ap by_slot a.order ∙ by_slot-append a.before (l ∷ a.after) in
    ap (λ xs. line_in xs p) e ∙ ap (line_in (by_slot a.before ++ Some l ∷ (second_of (is_wide l) ++ by_slot a.after))) n ∙ seam (by_slot a.before) l (second_of (is_wide l) ++ by_slot a.after)

pub some_line : (o : Option Line) → IsSome o → (l : Line) × (o ≡ Some l)
some_line (Some l) i = (l, refl)
some_line None i = absurd cc

place_by : (ls : List Line) (z : ℤ) → is_place (by_slot ls) z ≡ true → IsPlaceOf ls z
place_by ls (pos p) h = let s = some_line (line_in (by_slot ls) p) h in record { slot = p; line = s.0; place = refl; stands = at_of ls p s.0 s.1 }
place_by ls (negsuc n) h = absurd cc

placed : (ls : List Line) (z : ℤ) → IsPlaceOf ls z → is_place (by_slot ls) z ≡ true
placed ls z p = subst (λ y. is_place (by_slot ls) y ≡ true) (sym p.place) (ap is_some (of_at ls p.slot p.line p.stands))

aimed_by : (ls : List Line) (o : Option ℤ) → is_target (by_slot ls) o ≡ true → (z : ℤ) → o ≡ Some z → IsPlaceOf ls z
aimed_by ls (Some y) h z e = subst (IsPlaceOf ls) (same_Some y z e) (place_by ls y h)
aimed_by ls None h z e = absurd cc

target_by : (ls : List Line) (o : Option ℤ) → ((z : ℤ) → o ≡ Some z → IsPlaceOf ls z) → is_target (by_slot ls) o ≡ true
target_by ls (Some y) a = placed ls y (a y refl)
target_by ls None a = refl

pub aimed_of : (ls : List Line) (p : ℕ) (l : Line) → is_target (by_slot ls) (target_of p l) ≡ true → HasValidTarget ls p l
aimed_of ls p l h = aimed_by ls (target_of p l) h

pub target_at : (ls : List Line) (p : ℕ) (l : Line) → HasValidTarget ls p l → is_target (by_slot ls) (target_of p l) ≡ true
target_at ls p l a = target_by ls (target_of p l) a

-- the same as IsAdmittedAs, by slot
pub record IsSound (profile : Profile) (image : List ℕ) (lines : List Line) : Type 0 where
  pub whole : All (IsPlain profile) lines × (image ≡ image_of lines)
  pub short : length (by_slot lines) ≤ 2048
  pub aimed : (slot : ℕ) (l : Line) → line_in (by_slot lines) slot ≡ Some l → is_target (by_slot lines) (target_of slot l) ≡ true
  pub ends : (before : List Line) × (l : Line) × (lines ≡ before ++ l ∷ []) × (never_falls_through l ≡ true)

pub ranges_of : (profile : Profile) (ls : List Line) → All (IsPlain profile) ls → All IsLine ls
ranges_of profile ls a = λ k d lt. (a k d lt).0

pub lawful_of : (profile : Profile) (ls : List Line) → All (IsPlain profile) ls → All (IsLawful profile) ls
lawful_of profile ls a = λ k d lt. ((a k d lt).1, (a k d lt).2)

plain_of : (profile : Profile) (ls : List Line) → All IsLine ls → All (IsLawful profile) ls → All (IsPlain profile) ls
plain_of profile ls a w = λ k d lt. (a k d lt, (w k d lt).0, (w k d lt).1)

some_slots : (before ls : List Line) (l : Line) → ls ≡ before ++ l ∷ [] → 1 ≤ length (by_slot ls)
some_slots before ls l e =
    let n : length (by_slot ls) ≡ length (by_slot before) + length (by_slot (l ∷ [])) = ap (λ xs. length (by_slot xs)) e ∙ ap length (by_slot-append before (l ∷ [])) ∙ length-append (by_slot before) (by_slot (l ∷ [])) in
    omega (arith, n)

pub admitted_of : (profile : Profile) (image : List ℕ) (lines : List Line) → IsSound profile image lines → IsAdmittedAs profile image lines
admitted_of profile image lines s =
    let n : length image ≡ 8 * length (by_slot lines) = ap length s.whole.1 ∙ length_image lines in
    let some = some_slots s.ends.0 lines s.ends.1 s.ends.2 in
    record {
      slots = record { whole = omega (arith, n); some = omega (arith, n, some); few = omega (arith, n, s.short) };
      whole = record { ranges = ranges_of profile lines s.whole.0; octets = s.whole.1 };
      lawful = lawful_of profile lines s.whole.0;
      aimed = λ slot l a. aimed_of lines slot l (s.aimed slot l (of_at lines slot l a));
      ends = record { slot = place_of s.ends.0; line = s.ends.1; last = record { before = s.ends.0; order = s.ends.2; place = refl }; leaves = s.ends.3 };
    }

pub sound_of : (profile : Profile) (image : List ℕ) (lines : List Line) → IsAdmittedAs profile image lines → IsSound profile image lines
sound_of profile image lines a =
    let n : length image ≡ 8 * length (by_slot lines) = ap length a.whole.octets ∙ length_image lines in
    record {
      whole = (plain_of profile lines a.whole.ranges a.lawful, a.whole.octets);
      short = omega (arith, n, a.slots.few);
      aimed = λ slot l h. target_at lines slot l (a.aimed slot l (at_of lines slot l h));
      ends = (a.ends.last.before, a.ends.line, a.ends.last.order, a.ends.leaves);
    }

-- what may be run under a profile may be run under Two
pub admitted_by_two : (profile : Profile) (image : List ℕ) (lines : List Line) → IsAdmittedAs profile image lines → IsAdmittedAs Two image lines
admitted_by_two profile image lines a = record {
  slots = a.slots;
  whole = a.whole;
  lawful = λ k d lt. let h = a.lawful k d lt in (h.0, called_by profile (get_or lines k d) h.1);
  aimed = a.aimed;
  ends = a.ends;
}
