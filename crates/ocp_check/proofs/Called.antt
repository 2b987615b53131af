-- Local calls and their ends.
use Rattle.std.proofs.Common.{◌≡◌, ◌<◌, ℕ, ◌+◌, ◌-◌, ℤ, Bool, true, false, List, [], ◌∷◌, ◌++◌, length, take, get_or, Option, Some, None, refl, sym, ap, subst, ◌∙◌, arith, length-append}
use Rattle.std.specs.Prelude.{slice_get, ◌==◌}
use Rattle.std.proofs.lemmas.Bool.Decides.{nat_tests}
use Rattle.std.proofs.lemmas.List.{length-set}
use Rattle.std.proofs.lemmas.Option.{slice_get-get_or}
use Rattle.std.proofs.Math.Seq.{get_or-append_seam, take-append_seam}
use Rattle.bpf_step.specs.declared.frame.Frame.{Frame}
use Rattle.bpf_step.specs.declared.answer.Need.TheVariants.{LastExit}
use Rattle.bpf_step.specs.Machine.{State, Next, Needs}
use Rattle.bpf_step.specs.Calls.{call_unless_full, local_call, state_after_call, frame_of, exit_to, last_frame, state_after_return, restored_registers}
use Rattle.ocp_check.specs.declared.range.Range.{Range}
use Rattle.ocp_check.specs.Mirror.Ranges.{IsIn, AreIn}
use Rattle.ocp_check.specs.declared.certificate.Node.{Node}
use Rattle.ocp_check.specs.Mirror.Forms.{IsForm, AreFormed}
use Rattle.ocp_check.specs.Mirror.Words.{AreWords}
use Rattle.ocp_check.specs.Mirror.Callers.{Caller, Saves, AreSaved, row_after_return, forms_after_return, no_forms}
use Rattle.ocp_check.proofs.Each.{eleven, put_five}

as_many : (callers : List Caller) (frames : List Frame) → AreSaved callers frames → length frames ≡ length callers
as_many [] frames h = ap length h
as_many (c ∷ callers) frames h = let n = as_many callers h.0 h.4 in ap length h.2 ∙ omega (arith, n, length-append h.0 (h.1 ∷ []))

unless_full : (s : State) (distance : ℤ) (full : Bool) → full ≡ false → call_unless_full s distance full ≡ Next (state_after_call s distance)
unless_full s distance true e = absurd cc
unless_full s distance false e = refl

not_seven : (n : ℕ) → n < 7 → (n == 7) ≡ false
not_seven n h = grind (arith, nat_tests)

pub called : (callers : List Caller) (s : State) (node : Node) (bases : ℕ → ℕ) (distance : ℤ) → length callers < 7 → AreSaved callers s.frames → AreIn node.row s.registers → AreFormed node.forms bases s.registers → AreWords node.words bases s.memory →
    (local_call s distance ≡ Next (state_after_call s distance)) × AreSaved (record { place = s.place; node = node; bases = bases; memory = s.memory } ∷ callers) (state_after_call s distance).frames
called callers s node bases distance l h a g w = (
  unless_full s distance (length s.frames == 7) (not_seven (length s.frames) (omega (arith, l, as_many callers s.frames h))),
  (
    s.frames,
    frame_of s,
    refl,
    record {
      place = refl;
      r6 = a.each 6 (omega arith);
      r7 = a.each 7 (omega arith);
      r8 = a.each 8 (omega arith);
      r9 = a.each 9 (omega arith);
      r10 = a.each 10 (omega arith);
      form6 = g.each 6 (omega arith);
      form7 = g.each 7 (omega arith);
      form8 = g.each 8 (omega arith);
      form9 = g.each 9 (omega arith);
      form10 = g.each 10 (omega arith);
      words = w;
    },
    h,
  ),
)

minus_one : (n k : ℕ) → k ≡ n + 1 → k - 1 ≡ n
minus_one n k e = omega (arith, e)

pub last_of : (frames earlier : List Frame) (f : Frame) → frames ≡ earlier ++ f ∷ [] → slice_get frames (length frames - 1) ≡ Some f
last_of frames earlier f e =
    let n : length frames ≡ length earlier + 1 = ap length e ∙ length-append earlier (f ∷ []) in
    slice_get-get_or frames (length frames - 1) f (omega (arith, n)) ∙ ap Some (
    ap (λ k. get_or frames k f) (minus_one (length earlier) (length frames) n) ∙ ap (λ fs. get_or fs (length earlier) f) e ∙ get_or-append_seam earlier f [] f)

pub rest_of : (frames earlier : List Frame) (f : Frame) → frames ≡ earlier ++ f ∷ [] → take (length frames - 1) frames ≡ earlier
rest_of frames earlier f e =
    let n : length frames ≡ length earlier + 1 = ap length e ∙ length-append earlier (f ∷ []) in
    ap (λ k. take k frames) (minus_one (length earlier) (length frames) n) ∙ ap (take (length earlier)) e ∙ take-append_seam earlier (f ∷ [])

restored : (c : Caller) (f : Frame) (row : List (Option Range)) (registers : List ℕ) → length row ≡ 11 → Saves c f → AreIn row registers → AreIn (row_after_return c.node row) (restored_registers registers f)
restored c f row registers l v a = record {
  eleven = length-set _ 10 f.r10 ∙ length-set _ 9 f.r9 ∙ length-set _ 8 f.r8 ∙ length-set _ 7 f.r7 ∙ length-set registers 6 f.r6 ∙ a.eleven;
  each = put_five IsIn None row registers l a.eleven a.each v.r6 v.r7 v.r8 v.r9 v.r10;
}

pub unformed : (bases : ℕ → ℕ) (registers : List ℕ) → AreFormed no_forms bases registers
unformed bases registers = record { each = eleven _ tt tt tt tt tt tt tt tt tt tt tt }

formed_again : (c : Caller) (f : Frame) (registers : List ℕ) → length registers ≡ 11 → Saves c f → AreFormed (forms_after_return c.node) c.bases (restored_registers registers f)
formed_again c f registers l v = record { each = put_five (λ o. IsForm o c.bases) None no_forms registers refl l (unformed c.bases registers).each v.form6 v.form7 v.form8 v.form9 v.form10 }

pub ended : (c : Caller) (callers : List Caller) (s : State) (row : List (Option Range)) → length row ≡ 11 → AreSaved (c ∷ callers) s.frames → AreIn row s.registers →
    (t : State) × (exit_to s (last_frame s) ≡ Next t) × (t.place ≡ c.place + 1) × (t.memory ≡ s.memory) × AreSaved callers t.frames × AreIn (row_after_return c.node row) t.registers
    × AreFormed (forms_after_return c.node) c.bases t.registers × AreWords c.node.words c.bases c.memory
ended c callers s row l h a = (
  state_after_return s h.1,
  ap (exit_to s) (last_of s.frames h.0 h.1 h.2),
  h.3.place,
  refl,
  subst (AreSaved callers) (sym (rest_of s.frames h.0 h.1 h.2)) h.4,
  restored c h.1 row s.registers l h.3 a,
  formed_again c h.1 s.registers a.eleven h.3,
  h.3.words,
)

pub last_exit : (s : State) → AreSaved [] s.frames → exit_to s (last_frame s) ≡ Needs LastExit
last_exit s h = ap (λ (fs : List Frame). exit_to s (slice_get fs (length fs - 1))) h
