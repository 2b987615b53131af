-- The instructions that an image begins with are its lines.
use Rattle.std.proofs.Common.{◌≡◌, ℕ, suc, ◌+◌, ◌*◌, ◌≤◌, ◌<◌, Bool, true, false, List, [], ◌∷◌, ◌++◌, length, drop, Option, Some, None, Ok, refl, ap, sym, ◌∙◌, subst, arith, length-append, append_assoc}
use Rattle.std.specs.List.{All}
use Rattle.std.proofs.lemmas.List.Elements.{All-head, All-tail}
use Rattle.bpf_types.specs.declared.line.Line.{Line}
use Rattle.bpf_types.specs.Line.{is_wide, spelling, IsLine, WritesFramePointer}
use Rattle.bpf_decode.specs.Mirror.Decoding.{decode_result}
use Rattle.bpf_decode.specs.Images.{image_of, NoneWritesFramePointer}
use Rattle.ocp_loader.specs.Image.{line_in, second_of, slots_of, by_slot}
use Rattle.ocp_loader.specs.LineAt.{line_of}
use Rattle.ocp_loader.proofs.Octets.{append_nil, image_of-append, drop_front, length_image, spelled}
use Rattle.ocp_loader.proofs.Laid.{by_slot-append}
use Rattle.ocp_loader.proofs.Agree.{Agrees, agrees_none, agrees_line, agrees_second}
use Rattle.ocp_loader.proofs.Complete.{AreDecoded}

step : (image : List ℕ) (n : ℕ) (lines : List (Option Line)) (l : Line) (b : Bool) → is_wide l ≡ b → 8 * n + 8 ≤ length image → Agrees image n lines false → decode_result (drop (8 * n) image) ≡ Ok l →
    Agrees image (n + length (Some l ∷ second_of b)) (lines ++ Some l ∷ second_of b) false
step image n lines l false w room a h =
    let e : n + 1 ≡ suc n = omega arith in
    rw e (subst (λ (b : Bool). Agrees image (suc n) (lines ++ Some l ∷ []) b) w (agrees_line image n lines l room a h))
step image n lines l true w room a h =
    let e : n + 2 ≡ suc (suc n) = omega arith in
    rw e (subst (λ (xs : List (Option Line)). Agrees image (suc (suc n)) xs false) (append_assoc lines (Some l ∷ []) (None ∷ []))
    (agrees_second image (suc n) (lines ++ Some l ∷ []) (subst (λ (b : Bool). Agrees image (suc n) (lines ++ Some l ∷ []) b) w (agrees_line image n lines l room a h))))

abbrev Reaches : List ℕ → List Line → Type 0
Reaches image lines = Agrees image (length (by_slot lines)) (by_slot lines) false

further : AreDecoded → (image more : List ℕ) (before after : List Line) → image ≡ image_of (before ++ after) ++ more → All IsLine after → NoneWritesFramePointer after → Reaches image before → Reaches image (before ++ after)
further decodes image more before [] e range permitted a = subst (Reaches image) (sym (append_nil before)) a
further decodes image more before (l ∷ after) e range permitted a =
    let n = length (by_slot before) in
    let again : (before ++ l ∷ []) ++ after ≡ before ++ l ∷ after = append_assoc before (l ∷ []) after in
    let parts : image ≡ image_of before ++ (spelling l ++ (image_of after ++ more)) =
    e ∙ ap (λ (xs : List ℕ). xs ++ more) (image_of-append before (l ∷ after)) ∙ append_assoc (image_of before) (spelling l ++ image_of after) more
    ∙ ap (λ (xs : List ℕ). image_of before ++ xs) (append_assoc (spelling l) (image_of after) more) in
    let here : drop (8 * n) image ≡ spelling l ++ (image_of after ++ more) =
    ap (λ (k : ℕ). drop k image) (sym (length_image before)) ∙ ap (λ (xs : List ℕ). drop (length (image_of before)) xs) parts ∙ drop_front (image_of before) (spelling l ++ (image_of after ++ more)) in
    let room : 8 * n + 8 ≤ length image =
    omega (arith, ap length parts, length-append (image_of before) (spelling l ++ (image_of after ++ more)), length-append (spelling l) (image_of after ++ more), length_image before, spelled l) in
    let read : decode_result (drop (8 * n) image) ≡ Ok l = decodes (drop (8 * n) image) l (All-head IsLine l after range, image_of after ++ more, here) (All-head (λ (k : Line). ¬ WritesFramePointer k) l after permitted) in
    let next = step image n (by_slot before) l (is_wide l) refl room a read in
    let slots : by_slot (before ++ l ∷ []) ≡ by_slot before ++ slots_of l = by_slot-append before (l ∷ []) ∙ ap (λ (xs : List (Option Line)). by_slot before ++ xs) (append_nil (slots_of l)) in
    let counted : Agrees image (length (by_slot before ++ slots_of l)) (by_slot before ++ slots_of l) false =
    subst (λ (k : ℕ). Agrees image k (by_slot before ++ slots_of l) false) (sym (length-append (by_slot before) (slots_of l))) next in
    let reached : Reaches image (before ++ l ∷ []) = subst (λ (xs : List (Option Line)). Agrees image (length xs) xs false) (sym slots) counted in
    subst (Reaches image) again
    (further decodes image more (before ++ l ∷ []) after (e ∙ ap (λ (ls : List Line). image_of ls ++ more) (sym again)) (All-tail IsLine l after range) (All-tail (λ (k : Line). ¬ WritesFramePointer k) l after permitted) reached)

pub in_order : AreDecoded → (image more : List ℕ) (lines : List Line) (slot : ℕ) → All IsLine lines → NoneWritesFramePointer lines → image ≡ image_of lines ++ more → slot < length (by_slot lines) →
    line_of image slot ≡ line_in (by_slot lines) slot
in_order decodes image more lines slot range permitted e lt = (further decodes image more [] lines e range permitted (agrees_none image)).line slot lt
