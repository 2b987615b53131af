-- Where the lines of an image lie.
use Rattle.std.proofs.Common.{◌≡◌, ℕ, zero, suc, ◌+◌, ◌*◌, ◌<◌, ◌⊎◌, inl, inr, Bool, true, false, List, [], ◌∷◌, ◌++◌, length, Option, Some, None, Result, Ok, Err, IfOk, IsSome, refl, ap, sym, ◌∙◌, arith, length-append, append_assoc, drop}
use Rattle.std.specs.Prelude.{if◌then◌else◌}
use Rattle.std.proofs.lemmas.Option.{same_Some}
use Rattle.ocp_profile.specs.declared.profile.Profile.{Profile}
use Rattle.bpf_types.specs.declared.line.Line.{Line}
use Rattle.bpf_types.specs.Line.{is_wide, slots_if}
use Rattle.bpf_decode.specs.Mirror.Decoding.{decode_result}
use Rattle.bpf_decode.specs.declared.fault.DecodeFault.{DecodeFault}
use Rattle.ocp_loader.specs.declared.fault.LoadFault.TheVariants.{BadCall}
use Rattle.ocp_loader.specs.declared.fault.LoadFault.{LoadFault}
use Rattle.ocp_loader.specs.Image.{line_in, second_of, slots_of, by_slot, calls_well}
use Rattle.ocp_loader.specs.Mirror.Reading.{Reading, line_or_fault, reading_with_line, read_slot, read_slots}
use Rattle.ocp_loader.specs.Mirror.Checks.{first_bad_target, or_at, has_valid_target}

-- what comes after a line
pub record Next (lines : List (Option Line)) (p : ℕ) (b : Bool) : Type 0 where
  pub second : b ≡ true → line_in lines (p + 1) ≡ None
  pub next : (p + slots_if b ≡ length lines) ⊎ IsSome (line_in lines (p + slots_if b))

-- the first slot of the lines, if there are any, is a line's
abbrev pub Starts : List (Option Line) → Type 0
Starts lines = (length lines ≡ 0) ⊎ IsSome (line_in lines 0)

pub starts : (ls : List Line) → Starts (by_slot ls)
starts [] = inl refl
starts (l ∷ ls) = inr refl

abbrev pub AllNext : List (Option Line) → Type 0
AllNext lines = (p : ℕ) (l : Line) → line_in lines p ≡ Some l → Next lines p (is_wide l)

-- one slot before
shift : (x : Option Line) (lines : List (Option Line)) (p : ℕ) (b : Bool) → Next lines p b → Next (x ∷ lines) (suc p) b
shift x lines p b n = record {
  second = λ w. let e : suc p + 1 ≡ suc (p + 1) = omega arith in rw e (n.second w);
  next = let e : suc p + slots_if b ≡ suc (p + slots_if b) = omega arith in elim n.next [
    | inl h ↦ inl (omega (arith, h))
    | inr h ↦ inr (rw e h)
  ];
}

in_front : (m : Line) (b : Bool) → is_wide m ≡ b → (lines : List (Option Line)) → Starts lines → AllNext lines → AllNext ((Some m ∷ second_of b) ++ lines)
in_front m false e lines s a zero l h =
    let same : is_wide l ≡ false = ap is_wide (sym (same_Some m l h)) ∙ e in
    rw same (record { second = λ w. absurd cc; next = elim s [ inl z ↦ inl (omega (arith, z)) | inr i ↦ inr i ] })
in_front m false e lines s a (suc p) l h = shift (Some m) lines p (is_wide l) (a p l h)
in_front m true e lines s a zero l h =
    let same : is_wide l ≡ true = ap is_wide (sym (same_Some m l h)) ∙ e in
    rw same (record { second = λ w. refl; next = elim s [ inl z ↦ inl (omega (arith, z)) | inr i ↦ inr i ] })
in_front m true e lines s a (suc zero) l h = absurd cc
in_front m true e lines s a (suc (suc p)) l h = shift (Some m) (None ∷ lines) (suc p) (is_wide l) (shift None lines p (is_wide l) (a p l h))

pub all_next : (ls : List Line) → AllNext (by_slot ls)
all_next [] p l h = absurd cc
all_next (m ∷ ls) p l h = in_front m (is_wide m) refl (by_slot ls) (starts ls) (all_next ls) p l h

-- the lines so far, with a wide load whose second slot is the next one
abbrev pub IsLaid : List (Option Line) → Bool → Type 0
IsLaid lines false = (ls : List Line) × (by_slot ls ≡ lines)
IsLaid lines true = (ls : List Line) × (l : Line) × (is_wide l ≡ true) × (by_slot ls ++ Some l ∷ [] ≡ lines)

abbrev pub IsLaidOut : ℕ → Reading → Type 0
IsLaidOut n r = (length r.lines ≡ n) × IsLaid r.lines r.second

pub by_slot-append : (ls ms : List Line) → by_slot (ls ++ ms) ≡ by_slot ls ++ by_slot ms
by_slot-append [] ms = refl
by_slot-append (l ∷ ls) ms = ap (λ xs. slots_of l ++ xs) (by_slot-append ls ms) ∙ sym (append_assoc (slots_of l) (by_slot ls) (by_slot ms))

laid_line : (lines : List (Option Line)) (l : Line) (b : Bool) → is_wide l ≡ b → IsLaid lines false → IsLaid (lines ++ Some l ∷ []) b
laid_line lines l false e (ls, h) = (ls ++ l ∷ [], by_slot-append ls (l ∷ []) ∙ ap (λ xs. by_slot ls ++ xs) (ap (λ b. (Some l ∷ second_of b) ++ []) e) ∙ ap (λ xs. xs ++ Some l ∷ []) h)
laid_line lines l true e (ls, h) = (ls, l, e, ap (λ xs. xs ++ Some l ∷ []) h)

laid_second : (lines : List (Option Line)) → IsLaid lines true → IsLaid (lines ++ None ∷ []) false
laid_second lines (ls, l, e, h) =
    (ls ++ l ∷ [], by_slot-append ls (l ∷ []) ∙ ap (λ b. by_slot ls ++ ((Some l ∷ second_of b) ++ [])) e ∙ sym (append_assoc (by_slot ls) (Some l ∷ []) (None ∷ [])) ∙ ap (λ xs. xs ++ None ∷ []) h)

count : (lines : List (Option Line)) (x : Option Line) (n : ℕ) → length lines ≡ n → length (lines ++ x ∷ []) ≡ suc n
count lines x n h = length-append lines (x ∷ []) ∙ omega (arith, h)

laid_added : (n : ℕ) (lines : List (Option Line)) (x : Result Line LoadFault) → length lines ≡ n → IsLaid lines false → IfOk (reading_with_line lines x) (IsLaidOut (suc n))
laid_added n lines (Ok l) h laid = (count lines (Some l) n h, laid_line lines l (is_wide l) refl laid)
laid_added n lines (Err fault) h laid = tt

laid_step : (profile : Profile) (image : List ℕ) (n : ℕ) (lines : List (Option Line)) (second : Bool) → length lines ≡ n → IsLaid lines second →
    IfOk (read_slot profile image n (Ok (record { lines = lines; second = second }))) (IsLaidOut (suc n))
laid_step profile image n lines true h laid = (count lines None n h, laid_second lines laid)
laid_step profile image n lines false h laid = laid_added n lines (line_or_fault profile n (decode_result (drop (8 * n) image))) h laid

laid_next : (profile : Profile) (image : List ℕ) (n : ℕ) (q : Result Reading LoadFault) → IfOk q (IsLaidOut n) → IfOk (read_slot profile image n q) (IsLaidOut (suc n))
laid_next profile image n (Ok r) h = laid_step profile image n r.lines r.second h.0 h.1
laid_next profile image n (Err fault) h = tt

pub laid_out : (profile : Profile) (image : List ℕ) (n : ℕ) → IfOk (read_slots profile image n) (IsLaidOut n)
laid_out profile image zero = (refl, ([], refl))
laid_out profile image (suc n) = laid_next profile image n (read_slots profile image n) (laid_out profile image n)

-- if no slot leads to no line, each has a valid target
aimed_or : (o : Option ℕ) (fine : Bool) (n : ℕ) → or_at o fine n ≡ None → (o ≡ None) × (fine ≡ true)
aimed_or (Some x) fine n h = absurd cc
aimed_or None true n h = (refl, refl)
aimed_or None false n h = absurd cc

pub all_aimed : (lines : List (Option Line)) (n p : ℕ) → first_bad_target lines n ≡ None → p < n → has_valid_target lines p (line_in lines p) ≡ true
all_aimed lines zero p h l = absurd (omega (arith, l))
all_aimed lines (suc n) p h l =
    let both = aimed_or (first_bad_target lines n) (has_valid_target lines n (line_in lines n)) n h in
    elim (split p n l) [
      | inl less ↦ all_aimed lines n p both.0 less
      | inr same ↦ rw same both.1
    ]
  where
    split : (p n : ℕ) → p < suc n → (p < n) ⊎ (p ≡ n)
    split p n l = grind arith

-- a line is within the lines
pub within : (lines : List (Option Line)) (p : ℕ) (l : Line) → line_in lines p ≡ Some l → p < length lines
within [] p l h = absurd cc
within (x ∷ lines) zero l h = omega arith
within (x ∷ lines) (suc p) l h = let i : p < length lines = within lines p l h in omega arith

-- each engine call has a number of an engine call
abbrev pub AllCalled : Profile → List (Option Line) → Type 0
AllCalled profile lines = (p : ℕ) (l : Line) → line_in lines p ≡ Some l → calls_well profile l ≡ true

in_pushed : (lines : List (Option Line)) (x : Option Line) (p : ℕ) (l : Line) → line_in (lines ++ x ∷ []) p ≡ Some l → (line_in lines p ≡ Some l) ⊎ (x ≡ Some l)
in_pushed [] (Some m) zero l h = inr h
in_pushed [] None zero l h = absurd cc
in_pushed [] x (suc p) l h = absurd cc
in_pushed (y ∷ lines) x zero l h = inl h
in_pushed (y ∷ lines) x (suc p) l h = in_pushed lines x p l h

called_pushed : (profile : Profile) (lines : List (Option Line)) (m : Line) → calls_well profile m ≡ true → AllCalled profile lines → AllCalled profile (lines ++ Some m ∷ [])
called_pushed profile lines m w a p l h = elim (in_pushed lines (Some m) p l h) [
  | inl i ↦ a p l i
  | inr e ↦ ap (calls_well profile) (sym (same_Some m l e)) ∙ w
]

called_none : (profile : Profile) (lines : List (Option Line)) → AllCalled profile lines → AllCalled profile (lines ++ None ∷ [])
called_none profile lines a p l h = elim (in_pushed lines None p l h) [ inl i ↦ a p l i | inr e ↦ absurd cc ]

called_line : (profile : Profile) (lines : List (Option Line)) (slot : ℕ) (m : Line) (b : Bool) → calls_well profile m ≡ b → AllCalled profile lines → IfOk (reading_with_line lines (if b then Ok m else Err (BadCall slot))) (λ r. AllCalled profile r.lines)
called_line profile lines slot m true w a = called_pushed profile lines m w a
called_line profile lines slot m false w a = tt

called_added : (profile : Profile) (lines : List (Option Line)) (slot : ℕ) (x : Result Line DecodeFault) → AllCalled profile lines → IfOk (reading_with_line lines (line_or_fault profile slot x)) (λ r. AllCalled profile r.lines)
called_added profile lines slot (Ok m) a = called_line profile lines slot m (calls_well profile m) refl a
called_added profile lines slot (Err f) a = tt

called_step : (profile : Profile) (image : List ℕ) (n : ℕ) (lines : List (Option Line)) (second : Bool) → AllCalled profile lines → IfOk (read_slot profile image n (Ok (record { lines = lines; second = second }))) (λ r. AllCalled profile r.lines)
called_step profile image n lines true a = called_none profile lines a
called_step profile image n lines false a = called_added profile lines n (decode_result (drop (8 * n) image)) a

called_next : (profile : Profile) (image : List ℕ) (n : ℕ) (q : Result Reading LoadFault) → IfOk q (λ r. AllCalled profile r.lines) → IfOk (read_slot profile image n q) (λ r. AllCalled profile r.lines)
called_next profile image n (Ok r) a = called_step profile image n r.lines r.second a
called_next profile image n (Err f) a = tt

pub all_called : (profile : Profile) (image : List ℕ) (n : ℕ) → IfOk (read_slots profile image n) (λ r. AllCalled profile r.lines)
all_called profile image zero = λ p l h. absurd cc
all_called profile image (suc n) = called_next profile image n (read_slots profile image n) (all_called profile image n)
