-- A line is read in one way.
use Rattle.std.proofs.Common.{◌≡◌, ℕ, ℤ, List, [], ◌∷◌, Option, Some, None, refl, sym, ap, ◌∙◌, subst}
use Rattle.std.specs.Prelude.{◌==◌, if◌then◌else◌}
use Rattle.bpf_types.specs.Line.{swap_width_bits, extension_width, extension_bits}
use Rattle.bpf_types.specs.declared.line.Line.{Line}
use Rattle.bpf_types.specs.declared.line.Line.TheVariants as line
use Rattle.bpf_types.specs.declared.line.Operand.{Operand}
use Rattle.bpf_types.specs.declared.line.Operation.{Operation}
use Rattle.bpf_types.specs.declared.line.Comparison.{Comparison}
use Rattle.bpf_types.specs.declared.line.Size.{Size}
use Rattle.bpf_types.specs.declared.line.SignedSize.{SignedSize}
use Rattle.bpf_types.specs.declared.line.Order.{Order}
use Rattle.bpf_types.specs.declared.line.Width.{Width}
use Rattle.bpf_types.specs.declared.line.Width.TheVariants.{W32, W64}
use Rattle.bpf_types.specs.declared.line.Extension.{Extension}
use Rattle.bpf_types.specs.declared.line.Extension.TheVariants as extension
use Rattle.bpf_types.specs.declared.line.SwapWidth.{SwapWidth}
use Rattle.bpf_types.specs.declared.line.SwapWidth.TheVariants as swap
use Rattle.bpf_canonical.specs.Mnemonics.{mnemonic_name, mnemonic_of}
use Rattle.bpf_canonical.specs.declared.mnemonic.Mnemonic.{Mnemonic}
use Rattle.bpf_text.specs.Number.{IsNumeral}
use Rattle.bpf_text.specs.Fields.{IsRegister, IsImmediate, IsSecond, IsTarget}
use Rattle.bpf_text.specs.Grammar.{Token, ◌⸴◌, Memory}
use Rattle.bpf_text.specs.Lines.{IsOperands, IsForm, IsExtended, IsSwapWidth, IsBody, HasLabel, Statement, TextLine, Writes, InRange}
use Rattle.bpf_text.proofs.Scanning.{one_tokens}
use Rattle.bpf_text.proofs.JudgeLemmas.{no_local}
use Rattle.bpf_text.proofs.ReadingLemmas.{no_colon}
use Rattle.bpf_text.proofs.ReadLemmas.{statement}
use Rattle.bpf_text.proofs.UniqueForms.{OneForm, one_list, one_after, register_form, second_form, numeral_form, immediate_form, target_form, memory_form}

-- what the law of bpf_canonical states about mnemonics
abbrev pub AreNamed : Type 0
AreNamed = (m n : Mnemonic) → mnemonic_name m ≡ mnemonic_name n → m ≡ n

-- what the law states about lines of text
abbrev pub AreReadOnce : Type 0
AreReadOnce = (text : List ℕ) (w v : TextLine) → Writes text w → InRange w.body → Writes text v → w ≡ v

abbrev extension_from : Width → ℕ → Extension
extension_from W32 n = if n == 8 then extension.From8To32 else extension.From16To32
extension_from W64 n = if n == 8 then extension.From8To64 else if n == 16 then extension.From16To64 else extension.From32To64

extension_back : (e : Extension) → extension_from (extension_width e) (extension_bits e) ≡ e
extension_back extension.From8To32 = refl
extension_back _ = refl

one_extension : (e f : Extension) → extension_width e ≡ extension_width f → extension_bits e ≡ extension_bits f → e ≡ f
one_extension e f w b = let p = extension_back e in let q = extension_back f in cc

abbrev swap_width_from : ℕ → SwapWidth
swap_width_from n = if n == 16 then swap.Bits16 else if n == 32 then swap.Bits32 else swap.Bits64

swap_width_back : (s : SwapWidth) → swap_width_from (swap_width_bits s) ≡ s
swap_width_back swap.Bits16 = refl
swap_width_back _ = refl

one_swap_width : (s t : SwapWidth) → swap_width_bits s ≡ swap_width_bits t → s ≡ t
one_swap_width s t b = let p = swap_width_back s in let q = swap_width_back t in cc

-- the same instruction, the same name, and no odd width
abbrev Same : Line → Option (List ℕ) → Line → Option (List ℕ) → Option ℕ → Type 0
Same l a k b odd = (l ≡ k) × (a ≡ b) × (odd ≡ None)

-- each other line that begins with the mnemonic of this one, and has its operands, is this one
abbrev IsOne : Line → Type 0
IsOne l = (k : Line) (a b : Option (List ℕ)) (odd : Option ℕ) (tokens : List (List ℕ)) → mnemonic_of l ≡ mnemonic_of k → IsOperands (statement l a None) tokens → IsOperands (statement k b odd) tokens → Same l a k b odd

one_arithmetic : (w : Width) (o : Operation) (dst : ℕ) (x : Operand) → IsOne (line.Arithmetic w o dst x)
one_arithmetic w o dst x (line.Arithmetic w' o' dst' x') a b odd tokens m h k =
    let same = (one_list (Token IsRegister) (Token IsSecond) register_form second_form tokens (dst, x) (dst', x') [] [] h.2 k.2).0 in
    let p : dst ≡ dst' = λ i. (same i).0 in
    let q : x ≡ x' = λ i. (same i).1 in
    (cc, h.0 ∙ sym k.0, k.1)
one_arithmetic w o dst x _ a b odd tokens m h k = absurd cc

one_negate : (w : Width) (dst : ℕ) → IsOne (line.Negate w dst)
one_negate w dst (line.Negate w' dst') a b odd tokens m h k =
    let p = (register_form tokens dst dst' [] [] h.2 k.2).0 in
    (cc, h.0 ∙ sym k.0, k.1)
one_negate w dst _ a b odd tokens m h k = absurd cc

one_load_wide : (dst n : ℕ) → IsOne (line.LoadWide dst n)
one_load_wide dst n (line.LoadWide dst' n') a b odd tokens m h k =
    let same = (one_list (Token IsRegister) (Token IsNumeral) register_form numeral_form tokens (dst, n) (dst', n') [] [] h.2 k.2).0 in
    let p : dst ≡ dst' = λ i. (same i).0 in
    let q : n ≡ n' = λ i. (same i).1 in
    (cc, h.0 ∙ sym k.0, k.1)
one_load_wide dst n _ a b odd tokens m h k = absurd cc

one_jump : (z : ℤ) → IsOne (line.Jump z)
one_jump z (line.Jump z') a b odd tokens m h k =
    let same = (target_form tokens (z, a) (z', b) [] [] h.1 k.1).0 in
    (λ i. line.Jump (same i).0, λ i. (same i).1, k.0)
one_jump z _ a b odd tokens m h k = absurd cc

one_long_jump : (z : ℤ) → IsOne (line.LongJump z)
one_long_jump z (line.LongJump z') a b odd tokens m h k =
    let same = (target_form tokens (z, a) (z', b) [] [] h.1 k.1).0 in
    (λ i. line.LongJump (same i).0, λ i. (same i).1, k.0)
one_long_jump z _ a b odd tokens m h k = absurd cc

one_jump_if : (w : Width) (t : Comparison) (dst : ℕ) (x : Operand) (z : ℤ) → IsOne (line.JumpIf w t dst x z)
one_jump_if w t dst x z (line.JumpIf w' t' dst' x' z') a b odd tokens m h k =
    let same = (one_list (Token IsRegister) (Token IsSecond ⸴ Token IsTarget) register_form (one_list (Token IsSecond) (Token IsTarget) second_form target_form) tokens (dst, (x, (z, a))) (dst', (x', (z', b))) [] [] h.1 k.1).0 in
    let p : dst ≡ dst' = λ i. (same i).0 in
    let q : x ≡ x' = λ i. (same i).1.0 in
    let r : z ≡ z' = λ i. (same i).1.1.0 in
    (cc, λ i. (same i).1.1.1, k.0)
one_jump_if w t dst x z _ a b odd tokens m h k = absurd cc

one_call : (z : ℤ) → IsOne (line.Call z)
one_call z (line.Call z') a b odd tokens m h k =
    let p = (immediate_form tokens z z' [] [] h.2 k.2).0 in
    (ap line.Call p, h.0 ∙ sym k.0, k.1)
one_call z (line.CallLocal z') a b odd tokens m h k =
    let e = h.2.1 in
    let f = k.1.1 in
    let same : h.2.0 ≡ 108 ∷ 111 ∷ 99 ∷ 97 ∷ 108 ∷ [] = cc in
    absurd (no_local h.2.0 z same h.2.2)
one_call z _ a b odd tokens m h k = absurd cc

one_call_local : (z : ℤ) → IsOne (line.CallLocal z)
one_call_local z (line.Call z') a b odd tokens m h k =
    let e = k.2.1 in
    let f = h.1.1 in
    let same : k.2.0 ≡ 108 ∷ 111 ∷ 99 ∷ 97 ∷ 108 ∷ [] = cc in
    absurd (no_local k.2.0 z' same k.2.2)
one_call_local z (line.CallLocal z') a b odd tokens m h k =
    let same = (one_after (108 ∷ 111 ∷ 99 ∷ 97 ∷ 108 ∷ []) (Token IsTarget) target_form tokens (z, a) (z', b) [] [] h.1 k.1).0 in
    (λ i. line.CallLocal (same i).0, λ i. (same i).1, k.0)
one_call_local z _ a b odd tokens m h k = absurd cc

one_exit : IsOne line.Exit
one_exit line.Exit a b odd tokens m h k = (refl, h.0 ∙ sym k.0, k.1)
one_exit _ a b odd tokens m h k = absurd cc

load_parts : (tokens : List (List ℕ)) (dst base dst' base' : ℕ) (z z' : ℤ) → (Token IsRegister ⸴ Memory) tokens (dst, (base, z)) [] → (Token IsRegister ⸴ Memory) tokens (dst', (base', z')) [] → (dst ≡ dst') × (base ≡ base') × (z ≡ z')
load_parts tokens dst base dst' base' z z' h k =
    let same = (one_list (Token IsRegister) Memory register_form memory_form tokens (dst, (base, z)) (dst', (base', z')) [] [] h k).0 in
    (λ i. (same i).0, λ i. (same i).1.0, λ i. (same i).1.1)

one_load_plain : (s : Size) (dst base : ℕ) (z : ℤ) → IsOne (line.Load s dst base z)
one_load_plain s dst base z (line.Load s' dst' base' z') a b odd tokens m h k =
    let same = load_parts tokens dst base dst' base' z z' h.2 k.2 in let size : s ≡ s' = cc in
    (λ i. line.Load (size i) (same.0 i) (same.1 i) (same.2 i), h.0 ∙ sym k.0, k.1)
one_load_plain s dst base z _ a b odd tokens m h k = absurd cc

one_load_extended : (s : SignedSize) (dst base : ℕ) (z : ℤ) → IsOne (line.LoadExtended s dst base z)
one_load_extended s dst base z (line.LoadExtended s' dst' base' z') a b odd tokens m h k =
    let same = load_parts tokens dst base dst' base' z z' h.2 k.2 in let size : s ≡ s' = cc in
    (λ i. line.LoadExtended (size i) (same.0 i) (same.1 i) (same.2 i), h.0 ∙ sym k.0, k.1)
one_load_extended s dst base z _ a b odd tokens m h k = absurd cc

store_parts : {V : Type 0} (P : List ℕ → V → Type 0) → OneForm (Token P) → (tokens : List (List ℕ)) (base base' : ℕ) (z z' : ℤ) (v w : V) → (Memory ⸴ Token P) tokens ((base, z), v) [] → (Memory ⸴ Token P) tokens ((base', z'), w) [] → (base ≡ base') × (z ≡ z') × (v ≡ w)
store_parts P one tokens base base' z z' v w h k =
    let same = (one_list Memory (Token P) memory_form one tokens ((base, z), v) ((base', z'), w) [] [] h k).0 in
    (λ i. (same i).0.0, λ i. (same i).0.1, λ i. (same i).1)

one_store_plain : (s : Size) (base : ℕ) (z : ℤ) (src : ℕ) → IsOne (line.Store s base z src)
one_store_plain s base z src (line.Store s' base' z' src') a b odd tokens m h k =
    let same = store_parts IsRegister register_form tokens base base' z z' src src' h.2 k.2 in let size : s ≡ s' = cc in
    (λ i. line.Store (size i) (same.0 i) (same.1 i) (same.2 i), h.0 ∙ sym k.0, k.1)
one_store_plain s base z src _ a b odd tokens m h k = absurd cc

one_store_immediate : (s : Size) (base : ℕ) (z y : ℤ) → IsOne (line.StoreImmediate s base z y)
one_store_immediate s base z y (line.StoreImmediate s' base' z' y') a b odd tokens m h k =
    let same = store_parts IsImmediate immediate_form tokens base base' z z' y y' h.2 k.2 in let size : s ≡ s' = cc in
    (λ i. line.StoreImmediate (size i) (same.0 i) (same.1 i) (same.2 i), h.0 ∙ sym k.0, k.1)
one_store_immediate s base z y _ a b odd tokens m h k = absurd cc

-- a number that is the width of an extension is the odd width of none
one_width : (e f : Extension) (odd : Option ℕ) (m n : ℕ) → extension_width e ≡ extension_width f → m ≡ n → IsExtended e None m → IsExtended f odd n → (e ≡ f) × (odd ≡ None)
one_width e f None m n w same h k = (one_extension e f w (sym h ∙ same ∙ k), refl)
one_width e f (Some odd) m n w same h k = absurd (k.1 e w (sym h ∙ same))

one_swap : (s t : SwapWidth) (odd : Option ℕ) (m n : ℕ) → m ≡ n → IsSwapWidth s None m → IsSwapWidth t odd n → (s ≡ t) × (odd ≡ None)
one_swap s t None m n same h k = (one_swap_width s t (sym h ∙ same ∙ k), refl)
one_swap s t (Some odd) m n same h k = absurd (k.1 s (sym h ∙ same))

one_move_extended : (e : Extension) (dst src : ℕ) → IsOne (line.MoveExtended e dst src)
one_move_extended e dst src (line.MoveExtended e' dst' src') a b odd tokens m h k =
    let same = (one_list (Token IsRegister) (Token IsRegister ⸴ Token IsNumeral) register_form (one_list (Token IsRegister) (Token IsNumeral) register_form numeral_form) tokens (dst, (src, h.1)) (dst', (src', k.1)) [] [] h.3 k.3).0 in
    let p : dst ≡ dst' = λ i. (same i).0 in
    let q : src ≡ src' = λ i. (same i).1.0 in
    let w : extension_width e ≡ extension_width e' = cc in
    let r = one_width e e' odd h.1 k.1 w (λ i. (same i).1.1) h.2 k.2 in
    let f = r.0 in
    (cc, h.0 ∙ sym k.0, r.1)
one_move_extended e dst src _ a b odd tokens m h k = absurd cc

one_byte_order : (o : Order) (s : SwapWidth) (dst : ℕ) → IsOne (line.ByteOrder o s dst)
one_byte_order o s dst (line.ByteOrder o' s' dst') a b odd tokens m h k =
    let same = (one_list (Token IsRegister) (Token IsNumeral) register_form numeral_form tokens (dst, h.1) (dst', k.1) [] [] h.3 k.3).0 in
    let p : dst ≡ dst' = λ i. (same i).0 in
    let r = one_swap s s' odd h.1 k.1 (λ i. (same i).1) h.2 k.2 in
    let f = r.0 in
    (cc, h.0 ∙ sym k.0, r.1)
one_byte_order o s dst _ a b odd tokens m h k = absurd cc

one_operands : (l : Line) → IsOne l
one_operands (line.Arithmetic w o dst x) = one_arithmetic w o dst x
one_operands (line.Negate w dst) = one_negate w dst
one_operands (line.MoveExtended e dst src) = one_move_extended e dst src
one_operands (line.ByteOrder o s dst) = one_byte_order o s dst
one_operands (line.Jump z) = one_jump z
one_operands (line.LongJump z) = one_long_jump z
one_operands (line.JumpIf w t dst x z) = one_jump_if w t dst x z
one_operands (line.Call z) = one_call z
one_operands (line.CallLocal z) = one_call_local z
one_operands line.Exit = one_exit
one_operands (line.LoadWide dst n) = one_load_wide dst n
one_operands (line.Load s dst base z) = one_load_plain s dst base z
one_operands (line.LoadExtended s dst base z) = one_load_extended s dst base z
one_operands (line.StoreImmediate s base z y) = one_store_immediate s base z y
one_operands (line.Store s base z src) = one_store_plain s base z src

pub one_form : AreNamed → (l k : Line) (a b : Option (List ℕ)) (odd : Option ℕ) (tokens : List (List ℕ)) → IsForm (statement l a None) tokens → IsForm (statement k b odd) tokens → Same l a k b odd
one_form named l k a b odd tokens (x, e, h) (y, f, j) =
    let words : mnemonic_name (mnemonic_of l) ≡ mnemonic_name (mnemonic_of k) = cc in
    let others : y ≡ x = cc in
    one_operands l k a b odd x (named (mnemonic_of l) (mnemonic_of k) words) h (subst (IsOperands (statement k b odd)) others j)

pub one_body : AreNamed → (s u : Option Statement) (tokens : List (List ℕ)) → IsBody s tokens → InRange s → IsBody u tokens → s ≡ u
one_body named None None tokens h r k = refl
one_body named None (Some u) tokens h r (x, e, k) = absurd cc
one_body named (Some s) None tokens (x, e, h) r k = absurd cc
one_body named (Some s) (Some u) tokens h r k =
    let same = one_form named s.line u.line s.name u.name u.unknown_width tokens (subst (λ (o : Option ℕ). IsForm (statement s.line s.name o) tokens) r.1 h) k in
    let odd = r.1 ∙ sym same.2 in
    ap Some (λ i. record { line = same.0 i; name = same.1 i; unknown_width = odd i })

pub one_label : AreNamed → (a b : Option (List ℕ)) (s u : Option Statement) (tokens : List (List ℕ)) → HasLabel a s tokens → InRange s → HasLabel b u tokens → (a ≡ b) × (s ≡ u)
one_label named None None s u tokens h r k = (refl, one_body named s u tokens h r k)
one_label named None (Some b) s u tokens h r (x, e, n, k) = absurd (no_colon s b x tokens e h)
one_label named (Some a) None s u tokens (x, e, n, h) r k = absurd (no_colon u a x tokens e k)
one_label named (Some a) (Some b) s u tokens (x, e, n, h) r (y, f, m, k) =
    let names : a ≡ b = cc in
    let others : y ≡ x = cc in
    (ap Some names, one_body named s u x h r (subst (IsBody u) others k))

-- a line whose numbers are in range is written in one way
pub one_written : AreNamed → AreReadOnce
one_written named text w v h r k =
    let both = one_label named w.label v.label w.body v.body h.0 h.2 r (subst (HasLabel v.label v.body) (one_tokens text k.0 h.0 k.1 h.1) k.2) in
    λ i. record { label = both.0 i; body = both.1 i }
