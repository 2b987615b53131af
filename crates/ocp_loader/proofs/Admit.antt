-- What was read is an image of its lines.
use Rattle.std.proofs.Common.{◌≡◌, ℕ, zero, suc, ◌+◌, ◌-◌, ◌*◌, ◌<◌, ◌⊎◌, inl, inr, Bool, true, false, List, [], ◌∷◌, ◌++◌, length, drop, Option, Some, None, Ok, IsSome, refl, ap, sym, ◌∙◌, subst, arith, length-append, append_assoc}
use Rattle.std.proofs.lemmas.Option.{same_Some}
use Rattle.std.proofs.lemmas.List.Elements.{All-push, All-nil}
use Rattle.ocp_profile.specs.declared.profile.Profile.{Profile}
use Rattle.bpf_types.specs.declared.line.Line.{Line}
use Rattle.bpf_types.specs.Line.{is_wide, spelling}
use Rattle.bpf_decode.specs.Decoding.{BeginsWith}
use Rattle.bpf_decode.specs.Images.{image_of}
use Rattle.ocp_loader.specs.Image.{line_in, second_of, by_slot, never_falls_through}
use Rattle.ocp_loader.specs.LoadResult.{load_result}
use Rattle.ocp_loader.specs.Mirror.Reading.{IsPlain, IsRead}
use Rattle.ocp_loader.specs.Admitted.{IsAdmitted}
use Rattle.ocp_loader.proofs.Octets.{append_nil, image_of-append, spelled, drop_front, drop_more, drop_all}
use Rattle.ocp_loader.proofs.Sound.{IsSound, admitted_of}
use Rattle.ocp_loader.proofs.Laid.{by_slot-append, Next, all_next, within}
use Rattle.ocp_loader.proofs.Stay.{IsFine, fine, aimed_at, last_at, last_of, wide_last}

pub read_none : (profile : Profile) (image : List ℕ) → IsRead profile image 0 [] false
read_none profile image = record { lines = []; slots = refl; plain = All-nil (IsPlain profile); octets = refl }

pub read_second : (profile : Profile) (image : List ℕ) (n : ℕ) (lines : List (Option Line)) → IsRead profile image n lines true → IsRead profile image (n + 1) (lines ++ None ∷ []) false
read_second profile image n lines r = record { lines = r.lines; slots = r.slots ∙ sym (append_nil (lines ++ None ∷ [])); plain = r.plain; octets = let k : 8 * ((n + 1) + 0) ≡ 8 * (n + 1) = omega arith in rw k r.octets }

pub read_line : (profile : Profile) (image : List ℕ) (n : ℕ) (lines : List (Option Line)) (l : Line) → IsRead profile image n lines false → BeginsWith (drop (8 * n) image) l → IsPlain profile l → IsRead profile image (n + 1) (lines ++ Some l ∷ []) (is_wide l)
read_line profile image n lines l r (range, more, begins) p =
    let ls = r.lines in
    let s = second_of (is_wide l) in
    let z : 8 * (n + 0) ≡ 8 * n = omega arith in
    let so_far : image ≡ image_of ls ++ drop (8 * n) image = r.octets ∙ ap (λ k. image_of ls ++ drop k image) z in
    let rest : more ≡ drop (8 * ((n + 1) + length s)) image =
    sym (drop_front (spelling l) more) ∙ ap (λ xs. drop (length (spelling l)) xs) (sym begins) ∙ drop_more (8 * n) (length (spelling l)) image
    ∙ ap (λ k. drop k image) (ap (λ k. 8 * n + k) (spelled l) ∙ sum_of n (length s)) in
    record {
      lines = ls ++ l ∷ [];
      slots = by_slot-append ls (l ∷ []) ∙ ap (λ xs. xs ++ ((Some l ∷ s) ++ [])) (r.slots ∙ append_nil lines) ∙ ap (λ xs. lines ++ xs) (append_nil (Some l ∷ s)) ∙ sym (append_assoc lines (Some l ∷ []) s);
      plain = All-push (IsPlain profile) ls l r.plain p;
      octets = so_far ∙ ap (λ xs. image_of ls ++ xs) (begins ∙ ap (λ xs. spelling l ++ xs) rest) ∙ sym (append_assoc (image_of ls) (spelling l) _) ∙ ap (λ xs. xs ++ drop (8 * ((n + 1) + length s)) image) (sym (image_of-append ls (l ∷ []) ∙ ap (λ xs. image_of ls ++ xs) (append_nil (spelling l))));
    }
  where
    sum_of : (n k : ℕ) → 8 * n + 8 * suc k ≡ 8 * ((n + 1) + k)
    sum_of n k = omega arith

pub snoc : {A : Type 0} (xs : List A) → (xs ≡ []) ⊎ ((before : List A) × (x : A) × (xs ≡ before ++ x ∷ []))
snoc [] = inl refl
snoc (y ∷ ys) = elim (snoc ys) [
  | inl e ↦ inr ([], y, ap (λ zs. y ∷ zs) e)
  | inr r ↦ inr (y ∷ r.0, r.1, ap (λ zs. y ∷ zs) r.2)
]

-- the last line of some lines
last_by : (before : List Line) (l m : Line) (b : Bool) → is_wide l ≡ b → line_in (by_slot (before ++ l ∷ [])) (length (by_slot (before ++ l ∷ [])) - 1) ≡ Some m → m ≡ l
last_by before l m false w at =
    let e : by_slot before ++ Some l ∷ [] ≡ by_slot (before ++ l ∷ []) = sym (by_slot-append before (l ∷ []) ∙ ap (λ b. by_slot before ++ ((Some l ∷ second_of b) ++ [])) w) in
    same_Some m l (sym at ∙ last_at (by_slot before) (Some l) (by_slot (before ++ l ∷ [])) e)
last_by before l m true w at =
    let e : (by_slot before ++ Some l ∷ []) ++ None ∷ [] ≡ by_slot (before ++ l ∷ []) =
    append_assoc (by_slot before) (Some l ∷ []) (None ∷ []) ∙ sym (by_slot-append before (l ∷ []) ∙ ap (λ b. by_slot before ++ ((Some l ∷ second_of b) ++ [])) w) in
    let none : Some m ≡ None = sym at ∙ last_at (by_slot before ++ Some l ∷ []) None (by_slot (before ++ l ∷ [])) e in
    absurd cc

Ends : List Line → Type 0
Ends ls = (before : List Line) × (l : Line) × (ls ≡ before ++ l ∷ []) × (never_falls_through l ≡ true)

last_line : (ls : List Line) (m : Line) → line_in (by_slot ls) (length (by_slot ls) - 1) ≡ Some m → never_falls_through m ≡ true → Ends ls
unfolding Ends
last_line ls m at last = elim (snoc ls) [
  | inl e ↦ let none : None ≡ Some m = sym (ap (λ xs. line_in (by_slot xs) (length (by_slot xs) - 1)) e) ∙ at in absurd cc
  | inr r ↦
      let same : m ≡ r.1 = last_by r.0 r.1 m (is_wide r.1) refl (subst (λ xs. line_in (by_slot xs) (length (by_slot xs) - 1) ≡ Some m) r.2 at) in
      (r.0, r.1, r.2, sym (ap never_falls_through same) ∙ last)
]

in_longer : (lines ys : List (Option Line)) (p : ℕ) (l : Line) → line_in lines p ≡ Some l → line_in (lines ++ ys) p ≡ Some l
in_longer [] ys p l h = absurd cc
in_longer (x ∷ lines) ys zero l h = h
in_longer (x ∷ lines) ys (suc p) l h = in_longer lines ys p l h

pub narrow : (m : Line) (b : Bool) → is_wide m ≡ b → never_falls_through m ≡ true → b ≡ false
narrow m false w last = refl
narrow m true w last = let no_last : never_falls_through m ≡ false = wide_last m w in absurd cc

-- no second slot is missing at the end
no_more : (profile : Profile) (ls : List Line) (lines : List (Option Line)) → IsFine profile lines → by_slot ls ≡ lines ++ None ∷ [] → ⊥
no_more profile ls lines f e =
    let m = f.ends.0 in
    let p = length lines - 1 in
    let some : p < length lines = within lines p m f.ends.1 in
    let next : suc p ≡ length lines = omega (arith, some) in
    let at : line_in (by_slot ls) p ≡ Some m = ap (λ xs. line_in xs p) e ∙ in_longer lines (None ∷ []) p m f.ends.1 in
    let n : Next (by_slot ls) p false = subst (λ b. Next (by_slot ls) p b) (narrow m (is_wide m) refl f.ends.2) (all_next ls p m at) in
    let long : length (by_slot ls) ≡ length lines + 1 = ap length e ∙ length-append lines (None ∷ []) in
    elim n.next [
      | inl h ↦ omega (arith, h, long, next)
      | inr i ↦
          let k : p + 1 ≡ length lines = omega (arith, next) in
          let none : line_in (by_slot ls) (p + 1) ≡ None = rw (k, e) (last_of lines None) in
          let no_line : IsSome {T = Line} None = subst (λ (o : Option Line). IsSome o) none i in
          absurd cc
    ]

-- an image that is judged to be fine is that of its lines
sound : (profile : Profile) (image : List ℕ) (slots : ℕ) (lines : List (Option Line)) (second : Bool) → load_result profile image ≡ Ok lines → length image ≡ 8 * slots → IsRead profile image slots lines second → (ls : List Line) × IsSound profile image ls
unfolding Ends
sound profile image slots lines true j n r = absurd (no_more profile r.lines lines (fine profile image lines j) r.slots)
sound profile image slots lines false j n r =
    let ls = r.lines in
    let f : IsFine profile lines = fine profile image lines j in
    let same : lines ≡ by_slot ls = sym (r.slots ∙ append_nil lines) in
    let k : 8 * (slots + 0) ≡ length image = omega (arith, n) in
    let fine_ls : IsFine profile (by_slot ls) = subst (IsFine profile) same f in (
      ls,
      record {
        whole = (r.plain, r.octets ∙ ap (λ xs. image_of ls ++ xs) (ap (λ k. drop k image) k ∙ drop_all image) ∙ append_nil (image_of ls));
        short = fine_ls.short;
        aimed = λ slot l h. aimed_at profile (by_slot ls) slot l fine_ls h;
        ends = last_line ls fine_ls.ends.0 fine_ls.ends.1 fine_ls.ends.2;
      },
    )

pub admitted : (profile : Profile) (image : List ℕ) (slots : ℕ) (lines : List (Option Line)) (second : Bool) → load_result profile image ≡ Ok lines → length image ≡ 8 * slots → IsRead profile image slots lines second → IsAdmitted profile image
admitted profile image slots lines second j n r = let s = sound profile image slots lines second j n r in record { lines = s.0; admitted = admitted_of profile image s.0 s.1 }
