-- An image of instructions that loads may be run.
use Rattle.std.proofs.Common.{◌≡◌, ℕ, zero, suc, ◌+◌, ◌*◌, ◌/◌, ◌≤◌, inl, inr, Bool, true, false, List, [], ◌∷◌, ◌++◌, length, drop, Option, Ok, Err, refl, ap, sym, ◌∙◌, arith, length-append, append_assoc}
use Rattle.std.specs.Prelude.{if◌then◌else◌}
use Rattle.std.specs.List.{All}
use Rattle.std.proofs.lemmas.List.Elements.{All-head, All-tail, All-nil}
use Rattle.ocp_profile.specs.declared.profile.Profile.{Profile}
use Rattle.bpf_types.specs.declared.line.Line.{Line}
use Rattle.bpf_types.specs.Line.{spelling, IsLine, WritesFramePointer}
use Rattle.bpf_decode.specs.declared.fault.DecodeFault.{DecodeFault}
use Rattle.bpf_decode.specs.declared.fault.DecodeFault.TheVariants as fault
use Rattle.bpf_decode.specs.Decoding.{BeginsWith}
use Rattle.bpf_decode.specs.Mirror.Decoding.{decode_result}
use Rattle.bpf_decode.proofs.Only.{decide}
use Rattle.bpf_decode.specs.Images.{image_of, IsImageOf}
use Rattle.ocp_loader.specs.declared.fault.LoadFault.{LoadFault}
use Rattle.ocp_loader.specs.declared.fault.LoadFault.TheVariants.{Decode, BadCall}
use Rattle.ocp_loader.specs.Image.{slots_of, by_slot, calls_well}
use Rattle.ocp_loader.specs.Mirror.Reading.{Reading, line_or_fault, reading_with_line, read_slot, read_slots, IsPlain}
use Rattle.ocp_loader.specs.LoadResult.{load_result}
use Rattle.ocp_loader.specs.Admitted.{IsAdmitted}
use Rattle.ocp_loader.proofs.Octets.{append_nil, image_of-append, drop_front, drop_all, length_image}
use Rattle.ocp_loader.proofs.Laid.{by_slot-append}
use Rattle.ocp_loader.proofs.Stays.{stays}
use Rattle.ocp_loader.proofs.Stay.{read_lines}
use Rattle.ocp_loader.proofs.Admit.{admitted}
use Rattle.ocp_loader.proofs.Complete.{AreDecoded, HasRead, line_reads, reads}

-- what the law of bpf_decode states about instructions that write R10
abbrev pub AreRefused : Type 0
AreRefused = (octets : List ℕ) (l : Line) → BeginsWith octets l → WritesFramePointer l → decode_result octets ≡ Err fault.WritesFramePointer

no_error : (profile : Profile) (image : List ℕ) (k n : ℕ) (f : LoadFault) (r : Reading) → read_slots profile image k ≡ Err f → k ≤ n → read_slots profile image n ≡ Ok r → ⊥
no_error profile image k n f r e l h = let s : read_slots profile image n ≡ Err f = stays profile image k n f e l in absurd cc

decode_stop : (profile : Profile) (image : List ℕ) (n : ℕ) (lines : List (Option Line)) (f : DecodeFault) → read_slots profile image n ≡ Ok (record { lines = lines; second = false }) → decode_result (drop (8 * n) image) ≡ Err f →
    read_slots profile image (suc n) ≡ Err (Decode f n)
decode_stop profile image n lines f so_far d = ap (read_slot profile image n) so_far ∙ ap (λ x. reading_with_line lines (line_or_fault profile n x)) d

call_stop : (profile : Profile) (image : List ℕ) (n : ℕ) (lines : List (Option Line)) (l : Line) → read_slots profile image n ≡ Ok (record { lines = lines; second = false }) → decode_result (drop (8 * n) image) ≡ Ok l → calls_well profile l ≡ false →
    read_slots profile image (suc n) ≡ Err (BadCall n)
call_stop profile image n lines l so_far d c = ap (read_slot profile image n) so_far ∙ ap (λ x. reading_with_line lines (line_or_fault profile n x)) d ∙ ap (λ x. reading_with_line lines (if x then Ok l else Err (BadCall n))) c

-- an instruction that was read may be in an image
line_plain : (profile : Profile) → AreDecoded → AreRefused → (image : List ℕ) (n k : ℕ) (lines : List (Option Line)) (l : Line) (r : Reading) → BeginsWith (drop (8 * n) image) l →
    read_slots profile image n ≡ Ok (record { lines = lines; second = false }) → suc n ≤ k → read_slots profile image k ≡ Ok r → IsPlain profile l
line_plain profile decodes refuses image n k lines l r b so_far le h = elim (decide l) [
  | inl w ↦ absurd (no_error profile image (suc n) k (Decode fault.WritesFramePointer n) r (decode_stop profile image n lines fault.WritesFramePointer so_far (refuses (drop (8 * n) image) l b w)) le h)
  | inr p ↦ (b.0, p, well (calls_well profile l) refl p)
]
  where
    well : (c : Bool) → calls_well profile l ≡ c → ¬ WritesFramePointer l → calls_well profile l ≡ true
    well true e p = e
    well false e p = absurd (no_error profile image (suc n) k (BadCall n) r (call_stop profile image n lines l so_far (decodes (drop (8 * n) image) l b p) e) le h)

all_front : (P : Line → Type 0) (l : Line) (ls : List Line) → P l → All P ls → All P (l ∷ ls)
all_front P l ls h a zero d lt = h
all_front P l ls h a (suc k) d lt = a k d (omega (arith, lt))

all_plain : (profile : Profile) → AreDecoded → AreRefused → (image : List ℕ) (before after : List Line) (k : ℕ) (r : Reading) → image ≡ image_of (before ++ after) → All IsLine after →
    HasRead profile image before → length (by_slot (before ++ after)) ≤ k → read_slots profile image k ≡ Ok r → All (IsPlain profile) after
all_plain profile decodes refuses image before [] k r e range so_far le h = All-nil (IsPlain profile)
all_plain profile decodes refuses image before (l ∷ after) k r e range so_far le h =
    let n = length (by_slot before) in
    let again : (before ++ l ∷ []) ++ after ≡ before ++ l ∷ after = append_assoc before (l ∷ []) after in
    let parts : image ≡ image_of before ++ (spelling l ++ image_of after) = e ∙ image_of-append before (l ∷ after) in
    let here : drop (8 * n) image ≡ spelling l ++ image_of after =
    ap (λ (i : ℕ). drop i image) (sym (length_image before)) ∙ ap (λ (xs : List ℕ). drop (length (image_of before)) xs) parts ∙ drop_front (image_of before) (spelling l ++ image_of after) in
    let some : suc n ≤ k = omega (arith, le, ap length (by_slot-append before (l ∷ after)), length-append (by_slot before) (by_slot (l ∷ after)), length-append (slots_of l) (by_slot after)) in
    let p : IsPlain profile l = line_plain profile decodes refuses image n k (by_slot before) l r (All-head IsLine l after range, image_of after, here) so_far some h in
    let done = line_reads profile decodes image before l after e p so_far in
    all_front (IsPlain profile) l after p
    (all_plain profile decodes refuses image (before ++ l ∷ []) after k r (e ∙ ap image_of (sym again)) (All-tail IsLine l after range) done (omega (arith, le, ap (λ (ls : List Line). length (by_slot ls)) again)) h)

pub may_run : (profile : Profile) → AreDecoded → AreRefused → (image : List ℕ) (ls : List Line) (ms : List (Option Line)) → IsImageOf image ls → load_result profile image ≡ Ok ms → IsAdmitted profile image
may_run profile decodes refuses image ls ms is h =
    let n = length (by_slot ls) in
    let count : length image ≡ 8 * n = ap length is.octets ∙ length_image ls in
    let same : length image / 8 ≡ n = omega (arith, count) in
    let loaded = read_lines profile image ms h in
    let read : read_slots profile image n ≡ Ok loaded.0 = ap (read_slots profile image) (sym same) ∙ loaded.1 in
    let plain : All (IsPlain profile) ls = all_plain profile decodes refuses image [] ls n loaded.0 is.octets is.ranges refl (omega arith) read in
    let whole : read_slots profile image n ≡ Ok (record { lines = by_slot ls; second = false }) = reads profile decodes image [] ls is.octets plain refl in
    let reading : record { lines = by_slot ls; second = false } ≡ loaded.0 = cc in
    let lines : by_slot ls ≡ ms = ap (λ (r : Reading). r.lines) reading ∙ loaded.2 in
    let k : 8 * (n + 0) ≡ length image = omega (arith, count) in
    admitted profile image n ms false h count
    (record {
      lines = ls;
      slots = lines ∙ sym (append_nil ms);
      plain = plain;
      octets = is.octets ∙ sym (ap (λ (xs : List ℕ). image_of ls ++ xs) (ap (λ (i : ℕ). drop i image) k ∙ drop_all image) ∙ append_nil (image_of ls));
    })
