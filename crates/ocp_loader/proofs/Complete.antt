-- An admitted image is judged to be fine.
use Rattle.std.proofs.Common.{◌≡◌, ℕ, zero, suc, ◌+◌, ◌-◌, ◌*◌, ◌/◌, ◌%◌, ◌≤◌, ◌<◌, Bool, true, false, not, List, [], ◌∷◌, ◌++◌, length, drop, Option, Some, None, Result, Ok, Err, refl, ap, sym, ◌∙◌, subst, arith, length-append, append_assoc}
use Rattle.std.specs.Prelude.{if◌then◌else◌, ◌==◌, nat_lt}
use Rattle.std.specs.List.{All}
use Rattle.std.proofs.lemmas.Bool.Decides.{nat_tests}
use Rattle.std.proofs.lemmas.List.Elements.{All-head, All-tail}
use Rattle.ocp_profile.specs.declared.profile.Profile.{Profile}
use Rattle.bpf_types.specs.declared.line.Line.{Line}
use Rattle.bpf_types.specs.Line.{is_wide, spelling, WritesFramePointer}
use Rattle.bpf_decode.specs.Decoding.{BeginsWith}
use Rattle.bpf_decode.specs.Mirror.Decoding.{decode_result}
use Rattle.ocp_loader.specs.declared.fault.LoadFault.{LoadFault}
use Rattle.ocp_loader.specs.declared.fault.LoadFault.TheVariants.{EmptyCode, RaggedCode, TooLong, BadCall, FallsOffEnd}
use Rattle.bpf_decode.specs.Images.{image_of}
use Rattle.ocp_loader.specs.Image.{line_in, second_of, slots_of, by_slot, target_of, calls_well}
use Rattle.ocp_loader.specs.Mirror.Reading.{line_or_fault, reading_with_line, read_slot, read_slots}
use Rattle.ocp_loader.specs.LoadResult.{load_result}
use Rattle.ocp_loader.specs.Mirror.Checks.{lines_result, unless, lines_fault, end_fault, first_bad_target, has_valid_target, is_target}
use Rattle.ocp_loader.specs.Mirror.Reading.{IsPlain}
use Rattle.ocp_loader.specs.Admitted.{IsAdmittedAs, IsAdmitted}
use Rattle.ocp_loader.proofs.Octets.{append_nil, image_of-append, drop_front, length_image}
use Rattle.ocp_loader.proofs.Sound.{IsSound, sound_of}
use Rattle.ocp_loader.proofs.Laid.{by_slot-append}
use Rattle.ocp_loader.proofs.Stay.{last_at}
use Rattle.ocp_loader.proofs.Admit.{narrow}

-- what the law of bpf_decode states about octets
abbrev pub AreDecoded : Type 0
AreDecoded = (octets : List ℕ) (l : Line) → BeginsWith octets l → ¬ WritesFramePointer l → decode_result octets ≡ Ok l

-- what the law states about images that may be run
abbrev pub AreJudged : Profile → Type 0
AreJudged profile = (image : List ℕ) (lines : List Line) → IsAdmittedAs profile image lines → load_result profile image ≡ Ok (by_slot lines)

line_step : (profile : Profile) (image : List ℕ) (n : ℕ) (lines : List (Option Line)) (l : Line) (b : Bool) → is_wide l ≡ b → read_slots profile image n ≡ Ok (record { lines = lines; second = false }) →
    decode_result (drop (8 * n) image) ≡ Ok l → calls_well profile l ≡ true → read_slots profile image (suc n) ≡ Ok (record { lines = lines ++ Some l ∷ []; second = b })
line_step profile image n lines l b w so_far d c =
    ap (read_slot profile image n) so_far ∙ ap (λ x. reading_with_line lines (line_or_fault profile n x)) d
    ∙ ap (λ x. reading_with_line lines (if x then Ok l else Err (BadCall n))) c ∙ ap (λ x. Ok (record { lines = lines ++ Some l ∷ []; second = x })) w

slots_step : (profile : Profile) (image : List ℕ) (n : ℕ) (lines : List (Option Line)) (l : Line) (b : Bool) → is_wide l ≡ b → read_slots profile image n ≡ Ok (record { lines = lines; second = false }) →
    decode_result (drop (8 * n) image) ≡ Ok l → calls_well profile l ≡ true → read_slots profile image (n + length (Some l ∷ second_of b)) ≡ Ok (record { lines = lines ++ Some l ∷ second_of b; second = false })
slots_step profile image n lines l false w so_far d c = let e : n + 1 ≡ suc n = omega arith in rw e (line_step profile image n lines l false w so_far d c)
slots_step profile image n lines l true w so_far d c =
    let e : n + 2 ≡ suc (suc n) = omega arith in
    rw e (ap (read_slot profile image (suc n)) (line_step profile image n lines l true w so_far d c)
    ∙ ap (λ x. Ok (record { lines = x; second = false })) (append_assoc lines (Some l ∷ []) (None ∷ [])))

-- the slots of these lines were read
abbrev pub HasRead : Profile → List ℕ → List Line → Type 0
HasRead profile image ls = read_slots profile image (length (by_slot ls)) ≡ Ok (record { lines = by_slot ls; second = false })

-- one line more
pub line_reads : (profile : Profile) → AreDecoded → (image : List ℕ) (before : List Line) (l : Line) (after : List Line) → image ≡ image_of (before ++ l ∷ after) → IsPlain profile l → HasRead profile image before → HasRead profile image (before ++ l ∷ [])
line_reads profile decodes image before l after e p so_far =
    let n = length (by_slot before) in
    let parts : image ≡ image_of before ++ (spelling l ++ image_of after) = e ∙ image_of-append before (l ∷ after) in
    let here : drop (8 * n) image ≡ spelling l ++ image_of after = ap (λ k. drop k image) (sym (length_image before)) ∙ ap (λ xs. drop (length (image_of before)) xs) parts ∙ drop_front (image_of before) (spelling l ++ image_of after) in
    let read : decode_result (drop (8 * n) image) ≡ Ok l = decodes (drop (8 * n) image) l (p.0, image_of after, here) p.1 in
    let next = slots_step profile image n (by_slot before) l (is_wide l) refl so_far read p.2 in
    let slots : by_slot (before ++ l ∷ []) ≡ by_slot before ++ slots_of l = by_slot-append before (l ∷ []) ∙ ap (λ xs. by_slot before ++ xs) (append_nil (slots_of l)) in
    let count : length (by_slot (before ++ l ∷ [])) ≡ n + length (slots_of l) = ap length slots ∙ length-append (by_slot before) (slots_of l) in
    ap (read_slots profile image) count ∙ next ∙ ap (λ x. Ok (record { lines = x; second = false })) (sym slots)

pub reads : (profile : Profile) → AreDecoded → (image : List ℕ) (before after : List Line) → image ≡ image_of (before ++ after) → All (IsPlain profile) after → HasRead profile image before → HasRead profile image (before ++ after)
reads profile decodes image before [] e plain so_far = subst (HasRead profile image) (sym (append_nil before)) so_far
reads profile decodes image before (l ∷ after) e plain so_far =
    let again : (before ++ l ∷ []) ++ after ≡ before ++ l ∷ after = append_assoc before (l ∷ []) after in
    let done = line_reads profile decodes image before l after e (All-head (IsPlain profile) l after plain) so_far in
    subst (HasRead profile image) again (reads profile decodes image (before ++ l ∷ []) after (e ∙ ap image_of (sym again)) (All-tail (IsPlain profile) l after plain) done)

none_astray : (lines : List (Option Line)) (n : ℕ) → ((p : ℕ) → has_valid_target lines p (line_in lines p) ≡ true) → first_bad_target lines n ≡ None
none_astray lines zero a = refl
none_astray lines (suc n) a = rw (none_astray lines n a, a n) refl

aimed_by : (lines : List (Option Line)) (p : ℕ) (o : Option Line) → line_in lines p ≡ o → ((l : Line) → line_in lines p ≡ Some l → is_target lines (target_of p l) ≡ true) → has_valid_target lines p o ≡ true
aimed_by lines p (Some l) e a = a l e
aimed_by lines p None e a = refl

by_tests : (a b c : Bool) (q : Result (List (Option Line)) LoadFault) (ms : List (Option Line)) → a ≡ false → b ≡ true → c ≡ false → q ≡ Ok ms →
    (if a then Err EmptyCode else if not b then Err RaggedCode else if c then Err TooLong else q) ≡ Ok ms
by_tests true b c q ms x y z h = absurd cc
by_tests false false c q ms x y z h = absurd cc
by_tests false true true q ms x y z h = absurd cc
by_tests false true false q ms x y z h = h

tests : (n k : ℕ) → n ≡ 8 * k → 0 < k → k ≤ 2048 → ((n == 0) ≡ false) × ((n % 8 == 0) ≡ true) × (nat_lt 16384 n ≡ false) × (n / 8 ≡ k)
tests n k e p l = (grind (arith, nat_tests), grind (arith, nat_tests), grind (arith, nat_tests), omega (arith, e))

complete_by_slot : (profile : Profile) → AreDecoded → (image : List ℕ) (lines : List Line) → IsSound profile image lines → load_result profile image ≡ Ok (by_slot lines)
unfolding load_result
complete_by_slot profile decodes image lines a =
    let n = length (by_slot lines) in
    let ends = a.ends in
    let wide : is_wide ends.1 ≡ false = narrow ends.1 (is_wide ends.1) refl ends.3 in
    let shape : by_slot ends.0 ++ Some ends.1 ∷ [] ≡ by_slot lines = sym (ap by_slot ends.2 ∙ by_slot-append ends.0 (ends.1 ∷ []) ∙ ap (λ b. by_slot ends.0 ++ ((Some ends.1 ∷ second_of b) ++ [])) wide) in
    let some : 0 < n = omega (arith, sym (ap length shape) ∙ length-append (by_slot ends.0) (Some ends.1 ∷ [])) in
    let t = tests (length image) n (ap length a.whole.1 ∙ length_image lines) some a.short in
    let read : read_slots profile image (length image / 8) ≡ Ok (record { lines = by_slot lines; second = false }) = ap (read_slots profile image) t.3 ∙ reads profile decodes image [] lines a.whole.1 a.whole.0 refl in
    let bad_target : first_bad_target (by_slot lines) n ≡ None = none_astray (by_slot lines) n (λ p. aimed_by (by_slot lines) p (line_in (by_slot lines) p) refl (a.aimed p)) in
    let end : end_fault n (line_in (by_slot lines) (n - 1)) ≡ None = ap (end_fault n) (last_at (by_slot ends.0) (Some ends.1) (by_slot lines) shape) ∙ ap (λ b. if b then None else Some (FallsOffEnd (n - 1))) ends.3 in
    by_tests _ _ _ (lines_result (read_slots profile image (length image / 8))) (by_slot lines) t.0 t.1 t.2
    (ap lines_result read ∙ ap (λ o. unless (lines_fault (by_slot lines) o) (by_slot lines)) bad_target ∙ ap (λ f. unless f (by_slot lines)) end)

pub complete : (profile : Profile) → AreDecoded → AreJudged profile
complete profile decodes image lines a = complete_by_slot profile decodes image lines (sound_of profile image lines a)

-- an image with a fault is not admitted
pub not_admitted : (profile : Profile) → AreDecoded → (image : List ℕ) (fault : LoadFault) → load_result profile image ≡ Err fault → IsAdmitted profile image → ⊥
not_admitted profile decodes image fault h a = let ok : load_result profile image ≡ Ok (by_slot a.lines) = complete profile decodes image a.lines a.admitted in absurd cc
