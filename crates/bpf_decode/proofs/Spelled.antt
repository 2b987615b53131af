-- The instruction that the fields of one slot lead to is spelled by them.
use Rattle.std.proofs.Common.{◌≡◌, ℕ, ℤ, pos, negsuc, ◌+◌, ◌*◌, ◌/◌, ◌%◌, ◌<◌, ◌≤◌, List, [], ◌∷◌, Bool, true, false, Option, Some, None, refl, sym, ap, ◌∙◌, subst, arith}
use Rattle.std.specs.Prelude.{◌==◌, if◌then◌else◌, not, ◌&&◌, ◌||◌, nat_lt}
use Rattle.std.specs.Bool.{then_some}
use Rattle.std.specs.Ordering.{int_eq}
use Rattle.std.specs.List.{find}
use Rattle.std.proofs.lemmas.Option.{same_Some}
use Rattle.std.proofs.lemmas.Bool.Decides.{nat_tests, Decides-eqb, Decides-int_eq}
use Rattle.bpf_types.specs.declared.line.Fields.{Fields}
use Rattle.bpf_types.specs.declared.line.Line.{Line}
use Rattle.bpf_types.specs.declared.line.Line.TheVariants as line
use Rattle.bpf_types.specs.declared.line.Operand.{Operand}
use Rattle.bpf_types.specs.declared.line.Operand.TheVariants.{Immediate, Register}
use Rattle.bpf_types.specs.declared.line.Operation.{Operation}
use Rattle.bpf_types.specs.declared.line.Comparison.{Comparison}
use Rattle.bpf_types.specs.declared.line.Extension.{Extension}
use Rattle.bpf_types.specs.declared.line.Extension.TheVariants as extension
use Rattle.bpf_types.specs.declared.line.SwapWidth.{SwapWidth}
use Rattle.bpf_types.specs.declared.line.SwapWidth.TheVariants as swap
use Rattle.bpf_types.specs.declared.line.Size.{Size}
use Rattle.bpf_types.specs.declared.line.Width.{Width}
use Rattle.bpf_types.specs.declared.line.Width.TheVariants.{W32, W64}
use Rattle.bpf_types.specs.Line.{first_slot, operations, operation_code, operation_offset, comparisons, comparison_code, orders, order_opcode, sizes, size_code, signed_sizes, signed_size_code, arithmetic_class, jump_class, extension_width, extension_bits, extension_offset, swap_width_bits}
use Rattle.bpf_types.specs.Mirror.{extension_of}
use Rattle.bpf_decode.specs.Mirror.Codes.{operation_at, comparison_at, order_at, size_at, signed_size_at}
use Rattle.bpf_decode.specs.Mirror.Rows.{◌>>=◌, is_immediate, no_dst, no_src, no_offset, no_imm, operand_at, extension_at, swap_width_at, binary_at, extended_move_at, byte_order_at, arithmetic_at, jump_if_at, jump_at, load_at, store_with, store_at, short_at}
use Rattle.bpf_decode.proofs.RowLemmas.{same_fields, bind_some}

by_head : {X : Type 0} (test : X → Bool) (y x : X) (rest : Option X) (b : Bool) → test y ≡ b → (if b then Some y else rest) ≡ Some x → (rest ≡ Some x → test x ≡ true) → test x ≡ true
by_head test y x rest true e h more = subst (λ z. test z ≡ true) (same_Some y x h) e
by_head test y x rest false e h more = more h

-- what is found passes the test
found : {X : Type 0} (test : X → Bool) (xs : List X) (x : X) → find test xs ≡ Some x → test x ≡ true
found test [] x h = cc
found test (y ∷ ys) x h = by_head test y x (find test ys) (test y) refl h (λ rest. found test ys x rest)

both : (a b : Bool) → (a && b) ≡ true → (a ≡ true) × (b ≡ true)
both true b h = (refl, h)
both false b h = cc

three : (a b c : Bool) → (a && b && c) ≡ true → (a ≡ true) × (b ≡ true) × (c ≡ true)
three true true true h = (refl, refl, refl)
three true true false h = cc
three true false c h = cc
three false b c h = cc

four : (a b c d : Bool) → (a && b && c && d) ≡ true → (a ≡ true) × (b ≡ true) × (c ≡ true) × (d ≡ true)
four true true true true h = (refl, refl, refl, refl)
four true true true false h = cc
four true true false d h = cc
four true false c d h = cc
four false b c d h = cc

-- a value that a test guards
holds : {A : Type 0} (b : Bool) (x y : A) → then_some b x ≡ Some y → (b ≡ true) × (x ≡ y)
holds true x y h = (refl, same_Some x y h)
holds false x y h = cc

equal : (m n : ℕ) → (m == n) ≡ true → m ≡ n
equal m n h = (Decides-eqb m n).0 h

equal_int : (a b : ℤ) → int_eq a b ≡ true → a ≡ b
equal_int a b h = (Decides-int_eq a b).0 h

low : (n : ℕ) → nat_lt n 8 ≡ true → n < 8
low n h = grind (arith, nat_tests)

not_low : (n : ℕ) → nat_lt n 8 ≡ false → 8 ≤ n
not_low n h = grind (arith, nat_tests)

is_false : (b : Bool) → not b ≡ true → b ≡ false
is_false true h = cc
is_false false h = refl

is_true : (b : Bool) → not b ≡ false → b ≡ true
is_true true h = refl
is_true false h = cc

-- the operand that the fields give
Reads : Fields → Operand → Type 0
Reads f (Immediate imm) = (f.opcode % 16 < 8) × (f.src ≡ 0) × (f.imm ≡ imm)
Reads f (Register src) = (8 ≤ f.opcode % 16) × (f.imm ≡ pos 0) × (f.src ≡ src)

by_bit : (f : Fields) (x : Operand) (b : Bool) → nat_lt (f.opcode % 16) 8 ≡ b →
    (if b then then_some (f.src == 0) (Immediate f.imm) else then_some (int_eq f.imm (pos 0)) (Register f.src)) ≡ Some x → Reads f x
unfolding Reads
by_bit f x true e h = let a = holds (f.src == 0) (Immediate f.imm) x h in subst (Reads f) a.1 (low (f.opcode % 16) e, equal f.src 0 a.0, refl)
by_bit f x false e h = let a = holds (int_eq f.imm (pos 0)) (Register f.src) x h in subst (Reads f) a.1 (not_low (f.opcode % 16) e, equal_int f.imm (pos 0) a.0, refl)

reads : (f : Fields) (x : Operand) → operand_at f ≡ Some x → Reads f x
reads f x h = by_bit f x (nat_lt (f.opcode % 16) 8) refl h

arithmetic_row : (width : Width) (o : Operation) (f : Fields) (x : Operand) → Reads f x → f.opcode / 16 ≡ operation_code o → f.opcode % 8 ≡ arithmetic_class width → f.offset ≡ operation_offset o →
    first_slot (line.Arithmetic width o f.dst x) ≡ f
unfolding Reads
arithmetic_row width o f (Immediate imm) r code class offset =
    same_fields (first_slot (line.Arithmetic width o f.dst (Immediate imm))) f (omega (arith, r.0, code, class)) refl (sym r.1) (sym offset) (sym r.2)
arithmetic_row width o f (Register src) r code class offset =
    same_fields (first_slot (line.Arithmetic width o f.dst (Register src))) f (omega (arith, r.0, code, class)) refl (sym r.2) (sym offset) (sym r.1)

binary : (width : Width) (f : Fields) (l : Line) → f.opcode % 8 ≡ arithmetic_class width → binary_at width f ≡ Some l → first_slot l ≡ f
binary width f l class h =
    let a = bind_some (operation_at (f.opcode / 16) f.offset) (λ o. operand_at f >>= λ x. Some (line.Arithmetic width o f.dst x)) l h in
    let b = bind_some (operand_at f) (λ x. Some (line.Arithmetic width a.0 f.dst x)) l a.2 in
    let t = both (f.opcode / 16 == operation_code a.0) (int_eq f.offset (operation_offset a.0)) (found (λ o. (f.opcode / 16 == operation_code o) && int_eq f.offset (operation_offset o)) operations a.0 a.1) in
    subst (λ l. first_slot l ≡ f) (same_Some (line.Arithmetic width a.0 f.dst b.0) l b.2)
    (arithmetic_row width a.0 f b.0 (reads f b.0 b.1) (equal (f.opcode / 16) (operation_code a.0) t.0) class (equal_int f.offset (operation_offset a.0) t.1))

negation : (width : Width) (f : Fields) → f.opcode / 16 ≡ 8 → f.opcode % 8 ≡ arithmetic_class width → (is_immediate f && no_src f && no_offset f && no_imm f) ≡ true → first_slot (line.Negate width f.dst) ≡ f
negation width f code class h =
    let t = four (is_immediate f) (no_src f) (no_offset f) (no_imm f) h in
    let small = low (f.opcode % 16) t.0 in
    same_fields (first_slot (line.Negate width f.dst)) f (omega (arith, small, code, class)) refl (sym (equal f.src 0 t.1)) (sym (equal_int f.offset (pos 0) t.2)) (sym (equal_int f.imm (pos 0) t.3))

-- an extension of the given number of bits
abbrev IsExtension : Width → ℕ → Extension → Type 0
IsExtension width bits e = (extension_width e ≡ width) × (extension_bits e ≡ bits)

extension_32 : (bits : ℕ) (e : Extension) (a b : Bool) → (bits == 8) ≡ a → (bits == 16) ≡ b → (if a then Some extension.From8To32 else if b then Some extension.From16To32 else None) ≡ Some e → IsExtension W32 bits e
extension_32 bits e true b p q h = subst (IsExtension W32 bits) (same_Some extension.From8To32 e h) (refl, sym (equal bits 8 p))
extension_32 bits e false true p q h = subst (IsExtension W32 bits) (same_Some extension.From16To32 e h) (refl, sym (equal bits 16 q))
extension_32 bits e false false p q h = cc

extension_64 : (bits : ℕ) (e : Extension) (a b c : Bool) → (bits == 8) ≡ a → (bits == 16) ≡ b → (bits == 32) ≡ c →
    (if a then Some extension.From8To64 else if b then Some extension.From16To64 else if c then Some extension.From32To64 else None) ≡ Some e → IsExtension W64 bits e
extension_64 bits e true b c p q r h = subst (IsExtension W64 bits) (same_Some extension.From8To64 e h) (refl, sym (equal bits 8 p))
extension_64 bits e false true c p q r h = subst (IsExtension W64 bits) (same_Some extension.From16To64 e h) (refl, sym (equal bits 16 q))
extension_64 bits e false false true p q r h = subst (IsExtension W64 bits) (same_Some extension.From32To64 e h) (refl, sym (equal bits 32 r))
extension_64 bits e false false false p q r h = cc

is_extension : (width : Width) (bits : ℕ) (e : Extension) → extension_of width bits ≡ Some e → IsExtension width bits e
is_extension W32 bits e h = extension_32 bits e (bits == 8) (bits == 16) refl refl h
is_extension W64 bits e h = extension_64 bits e (bits == 8) (bits == 16) (bits == 32) refl refl refl h

extension_found : (width : Width) (offset : ℤ) (e : Extension) → extension_at width offset ≡ Some e → (extension_width e ≡ width) × (extension_offset e ≡ offset)
extension_found width (pos bits) e h = let a = is_extension width bits e h in (a.0, ap pos a.1)
extension_found width (negsuc n) e h = cc

extended_move : (width : Width) (f : Fields) (l : Line) → f.opcode / 16 ≡ 11 → f.opcode % 8 ≡ arithmetic_class width → (not (is_immediate f) && not (no_offset f) && no_imm f) ≡ true → extended_move_at width f ≡ Some l → first_slot l ≡ f
extended_move width f l code class test h =
    let a = bind_some (extension_at width f.offset) (λ e. Some (line.MoveExtended e f.dst f.src)) l h in
    let t = three (not (is_immediate f)) (not (no_offset f)) (no_imm f) test in
    let e = extension_found width f.offset a.0 a.1 in
    let large = not_low (f.opcode % 16) (is_false (is_immediate f) t.0) in
    let same_class : f.opcode % 8 ≡ arithmetic_class (extension_width a.0) = class ∙ ap arithmetic_class (sym e.0) in
    subst (λ l. first_slot l ≡ f) (same_Some (line.MoveExtended a.0 f.dst f.src) l a.2)
    (same_fields (first_slot (line.MoveExtended a.0 f.dst f.src)) f (omega (arith, large, code, same_class)) refl refl e.1 (sym (equal_int f.imm (pos 0) t.2)))

swap_width : (bits : ℕ) (w : SwapWidth) (a b c : Bool) → (bits == 16) ≡ a → (bits == 32) ≡ b → (bits == 64) ≡ c →
    (if a then Some swap.Bits16 else if b then Some swap.Bits32 else if c then Some swap.Bits64 else None) ≡ Some w → swap_width_bits w ≡ bits
swap_width bits w true b c p q r h = subst (λ w. swap_width_bits w ≡ bits) (same_Some swap.Bits16 w h) (sym (equal bits 16 p))
swap_width bits w false true c p q r h = subst (λ w. swap_width_bits w ≡ bits) (same_Some swap.Bits32 w h) (sym (equal bits 32 q))
swap_width bits w false false true p q r h = subst (λ w. swap_width_bits w ≡ bits) (same_Some swap.Bits64 w h) (sym (equal bits 64 r))
swap_width bits w false false false p q r h = cc

swap_width_found : (imm : ℤ) (w : SwapWidth) → swap_width_at imm ≡ Some w → pos (swap_width_bits w) ≡ imm
swap_width_found (pos bits) w h = ap pos (swap_width bits w (bits == 16) (bits == 32) (bits == 64) refl refl refl h)
swap_width_found (negsuc n) w h = cc

byte_order : (f : Fields) (l : Line) → (no_src f && no_offset f) ≡ true → byte_order_at f ≡ Some l → first_slot l ≡ f
byte_order f l test h =
    let a = bind_some (order_at f.opcode) (λ o. swap_width_at f.imm >>= λ w. Some (line.ByteOrder o w f.dst)) l h in
    let b = bind_some (swap_width_at f.imm) (λ w. Some (line.ByteOrder a.0 w f.dst)) l a.2 in
    let t = both (no_src f) (no_offset f) test in
    let opcode = equal f.opcode (order_opcode a.0) (found (λ o. f.opcode == order_opcode o) orders a.0 a.1) in
    subst (λ l. first_slot l ≡ f) (same_Some (line.ByteOrder a.0 b.0 f.dst) l b.2)
    (same_fields (first_slot (line.ByteOrder a.0 b.0 f.dst)) f (sym opcode) refl (sym (equal f.src 0 t.0)) (sym (equal_int f.offset (pos 0) t.1)) (swap_width_found f.imm b.0 b.1))

arithmetic : (width : Width) (f : Fields) (l : Line) (a b c : Bool) → ((f.opcode / 16 == 8) && (is_immediate f && no_src f && no_offset f && no_imm f)) ≡ a →
    ((f.opcode / 16 == 11) && (not (is_immediate f) && not (no_offset f) && no_imm f)) ≡ b → ((f.opcode / 16 == 13) && (no_src f && no_offset f)) ≡ c → f.opcode % 8 ≡ arithmetic_class width →
    (if a then Some (line.Negate width f.dst) else if b then extended_move_at width f else if c then byte_order_at f else binary_at width f) ≡ Some l → first_slot l ≡ f
arithmetic width f l true b c p q r class h =
    let t = both (f.opcode / 16 == 8) (is_immediate f && no_src f && no_offset f && no_imm f) p in
    subst (λ l. first_slot l ≡ f) (same_Some (line.Negate width f.dst) l h) (negation width f (equal (f.opcode / 16) 8 t.0) class t.1)
arithmetic width f l false true c p q r class h =
    let t = both (f.opcode / 16 == 11) (not (is_immediate f) && not (no_offset f) && no_imm f) q in
    extended_move width f l (equal (f.opcode / 16) 11 t.0) class t.1 h
arithmetic width f l false false true p q r class h = byte_order f l (both (f.opcode / 16 == 13) (no_src f && no_offset f) r).1 h
arithmetic width f l false false false p q r class h = binary width f l class h

arithmetics : (width : Width) (f : Fields) (l : Line) → f.opcode % 8 ≡ arithmetic_class width → arithmetic_at width f ≡ Some l → first_slot l ≡ f
arithmetics width f l class h = arithmetic width f l _ _ _ refl refl refl class h

jump_row : (width : Width) (c : Comparison) (f : Fields) (x : Operand) → Reads f x → f.opcode / 16 ≡ comparison_code c → f.opcode % 8 ≡ jump_class width →
    first_slot (line.JumpIf width c f.dst x f.offset) ≡ f
unfolding Reads
jump_row width c f (Immediate imm) r code class =
    same_fields (first_slot (line.JumpIf width c f.dst (Immediate imm) f.offset)) f (omega (arith, r.0, code, class)) refl (sym r.1) refl (sym r.2)
jump_row width c f (Register src) r code class =
    same_fields (first_slot (line.JumpIf width c f.dst (Register src) f.offset)) f (omega (arith, r.0, code, class)) refl (sym r.2) refl (sym r.1)

jump_if : (width : Width) (f : Fields) (l : Line) → f.opcode % 8 ≡ jump_class width → jump_if_at width f ≡ Some l → first_slot l ≡ f
jump_if width f l class h =
    let a = bind_some (comparison_at (f.opcode / 16)) (λ c. operand_at f >>= λ x. Some (line.JumpIf width c f.dst x f.offset)) l h in
    let b = bind_some (operand_at f) (λ x. Some (line.JumpIf width a.0 f.dst x f.offset)) l a.2 in
    let code = equal (f.opcode / 16) (comparison_code a.0) (found (λ c. f.opcode / 16 == comparison_code c) comparisons a.0 a.1) in
    subst (λ l. first_slot l ≡ f) (same_Some (line.JumpIf width a.0 f.dst b.0 f.offset) l b.2)
    (jump_row width a.0 f b.0 (reads f b.0 b.1) code class)

jump : (width : Width) (f : Fields) (l : Line) (a b c d e : Bool) → ((f.opcode == 0x05) && (no_dst f && no_src f && no_imm f)) ≡ a →
    ((f.opcode == 0x06) && (no_dst f && no_src f && no_offset f)) ≡ b → ((f.opcode == 0x85) && (no_dst f && no_src f && no_offset f)) ≡ c →
    ((f.opcode == 0x85) && (no_dst f && (f.src == 1) && no_offset f)) ≡ d → ((f.opcode == 0x95) && (no_dst f && no_src f && no_offset f && no_imm f)) ≡ e → f.opcode % 8 ≡ jump_class width →
    (if a then Some (line.Jump f.offset) else if b then Some (line.LongJump f.imm) else if c then Some (line.Call f.imm) else if d then Some (line.CallLocal f.imm)
    else if e then Some line.Exit else jump_if_at width f) ≡ Some l → first_slot l ≡ f
jump width f l true b c d e p q r s t class h =
    let o = both (f.opcode == 0x05) (no_dst f && no_src f && no_imm f) p in
    let z = three (no_dst f) (no_src f) (no_imm f) o.1 in
    subst (λ l. first_slot l ≡ f) (same_Some (line.Jump f.offset) l h)
    (same_fields (first_slot (line.Jump f.offset)) f (sym (equal f.opcode 0x05 o.0)) (sym (equal f.dst 0 z.0)) (sym (equal f.src 0 z.1)) refl (sym (equal_int f.imm (pos 0) z.2)))
jump width f l false true c d e p q r s t class h =
    let o = both (f.opcode == 0x06) (no_dst f && no_src f && no_offset f) q in
    let z = three (no_dst f) (no_src f) (no_offset f) o.1 in
    subst (λ l. first_slot l ≡ f) (same_Some (line.LongJump f.imm) l h)
    (same_fields (first_slot (line.LongJump f.imm)) f (sym (equal f.opcode 0x06 o.0)) (sym (equal f.dst 0 z.0)) (sym (equal f.src 0 z.1)) (sym (equal_int f.offset (pos 0) z.2)) refl)
jump width f l false false true d e p q r s t class h =
    let o = both (f.opcode == 0x85) (no_dst f && no_src f && no_offset f) r in
    let z = three (no_dst f) (no_src f) (no_offset f) o.1 in
    subst (λ l. first_slot l ≡ f) (same_Some (line.Call f.imm) l h)
    (same_fields (first_slot (line.Call f.imm)) f (sym (equal f.opcode 0x85 o.0)) (sym (equal f.dst 0 z.0)) (sym (equal f.src 0 z.1)) (sym (equal_int f.offset (pos 0) z.2)) refl)
jump width f l false false false true e p q r s t class h =
    let o = both (f.opcode == 0x85) (no_dst f && (f.src == 1) && no_offset f) s in
    let z = three (no_dst f) (f.src == 1) (no_offset f) o.1 in
    subst (λ l. first_slot l ≡ f) (same_Some (line.CallLocal f.imm) l h)
    (same_fields (first_slot (line.CallLocal f.imm)) f (sym (equal f.opcode 0x85 o.0)) (sym (equal f.dst 0 z.0)) (sym (equal f.src 1 z.1)) (sym (equal_int f.offset (pos 0) z.2)) refl)
jump width f l false false false false true p q r s t class h =
    let o = both (f.opcode == 0x95) (no_dst f && no_src f && no_offset f && no_imm f) t in
    let z = four (no_dst f) (no_src f) (no_offset f) (no_imm f) o.1 in
    subst (λ l. first_slot l ≡ f) (same_Some line.Exit l h)
    (same_fields (first_slot line.Exit) f (sym (equal f.opcode 0x95 o.0)) (sym (equal f.dst 0 z.0)) (sym (equal f.src 0 z.1)) (sym (equal_int f.offset (pos 0) z.2)) (sym (equal_int f.imm (pos 0) z.3)))
jump width f l false false false false false p q r s t class h = jump_if width f l class h

jumps : (width : Width) (f : Fields) (l : Line) → f.opcode % 8 ≡ jump_class width → jump_at width f ≡ Some l → first_slot l ≡ f
jumps width f l class h = jump width f l _ _ _ _ _ refl refl refl refl refl class h

-- a load of a mode, whose size is one of several
load_row : {S : Type 0} (row : S → Line) (code : S → ℕ) (all : List S) (mode : ℕ) (f : Fields) (l : Line) → ((f.opcode / 32 == mode) && no_imm f) ≡ true → f.opcode % 8 ≡ 1 →
    ((s : S) → first_slot (row s) ≡ record { opcode = code s * 8 + (mode * 32 + 1); dst = f.dst; src = f.src; offset = f.offset; imm = pos 0 }) →
    (find (λ s. f.opcode / 8 % 4 == code s) all >>= λ s. Some (row s)) ≡ Some l → first_slot l ≡ f
load_row row code all mode f l test class is h =
    let t = both (f.opcode / 32 == mode) (no_imm f) test in
    let a = bind_some (find (λ s. f.opcode / 8 % 4 == code s) all) (λ s. Some (row s)) l h in
    let size = equal (f.opcode / 8 % 4) (code a.0) (found (λ s. f.opcode / 8 % 4 == code s) all a.0 a.1) in
    let of_mode = equal (f.opcode / 32) mode t.0 in
    subst (λ l. first_slot l ≡ f) (same_Some (row a.0) l a.2)
    (is a.0 ∙ same_fields (record { opcode = code a.0 * 8 + (mode * 32 + 1); dst = f.dst; src = f.src; offset = f.offset; imm = pos 0 }) f (omega (arith, size, of_mode, class)) refl refl refl (sym (equal_int f.imm (pos 0) t.1)))

load : (f : Fields) (l : Line) (a b : Bool) → ((f.opcode / 32 == 3) && no_imm f) ≡ a → ((f.opcode / 32 == 4) && no_imm f) ≡ b → f.opcode % 8 ≡ 1 →
    (if a then (size_at (f.opcode / 8 % 4) >>= λ size. Some (line.Load size f.dst f.src f.offset))
    else if b then (signed_size_at (f.opcode / 8 % 4) >>= λ size. Some (line.LoadExtended size f.dst f.src f.offset)) else None) ≡ Some l → first_slot l ≡ f
load f l true b p q class h = load_row (λ size. line.Load size f.dst f.src f.offset) size_code sizes 3 f l p class (λ size. refl) h
load f l false true p q class h = load_row (λ size. line.LoadExtended size f.dst f.src f.offset) signed_size_code signed_sizes 4 f l q class (λ size. refl) h
load f l false false p q class h = cc

store_row : (f : Fields) (l : Line) (s : Size) (a b : Bool) → f.opcode / 32 ≡ 3 → f.opcode / 8 % 4 ≡ size_code s → ((f.opcode % 8 == 2) && no_src f) ≡ a → ((f.opcode % 8 == 3) && no_imm f) ≡ b →
    (if a then Some (line.StoreImmediate s f.dst f.offset f.imm) else if b then Some (line.Store s f.dst f.offset f.src) else None) ≡ Some l → first_slot l ≡ f
store_row f l s true b mode size p q h =
    let t = both (f.opcode % 8 == 2) (no_src f) p in
    let class = equal (f.opcode % 8) 2 t.0 in
    subst (λ l. first_slot l ≡ f) (same_Some (line.StoreImmediate s f.dst f.offset f.imm) l h)
    (same_fields (first_slot (line.StoreImmediate s f.dst f.offset f.imm)) f (omega (arith, size, mode, class)) refl (sym (equal f.src 0 t.1)) refl refl)
store_row f l s false true mode size p q h =
    let t = both (f.opcode % 8 == 3) (no_imm f) q in
    let class = equal (f.opcode % 8) 3 t.0 in
    subst (λ l. first_slot l ≡ f) (same_Some (line.Store s f.dst f.offset f.src) l h)
    (same_fields (first_slot (line.Store s f.dst f.offset f.src)) f (omega (arith, size, mode, class)) refl refl refl (sym (equal_int f.imm (pos 0) t.1)))
store_row f l s false false mode size p q h = cc

store : (f : Fields) (l : Line) (b : Bool) → not (f.opcode / 32 == 3) ≡ b → (if b then None else size_at (f.opcode / 8 % 4) >>= store_with f) ≡ Some l → first_slot l ≡ f
store f l true p h = cc
store f l false p h =
    let a = bind_some (size_at (f.opcode / 8 % 4)) (store_with f) l h in
    let size = equal (f.opcode / 8 % 4) (size_code a.0) (found (λ s. f.opcode / 8 % 4 == size_code s) sizes a.0 a.1) in
    let mode = equal (f.opcode / 32) 3 (is_true (f.opcode / 32 == 3) p) in
    store_row f l a.0 _ _ mode size refl refl a.2

row : (f : Fields) (l : Line) (a b d e g i : Bool) → (f.opcode % 8 == 1) ≡ a → (f.opcode % 8 == 4) ≡ d → (f.opcode % 8 == 5) ≡ e → (f.opcode % 8 == 6) ≡ g → (f.opcode % 8 == 7) ≡ i →
    (if a then load_at f else if b then store_at f else if d then arithmetic_at W32 f else if e then jump_at W64 f else if g then jump_at W32 f else if i then arithmetic_at W64 f else None) ≡ Some l → first_slot l ≡ f
row f l true b d e g i p s t u v h = load f l _ _ refl refl (equal (f.opcode % 8) 1 p) h
row f l false true d e g i p s t u v h = store f l _ refl h
row f l false false true e g i p s t u v h = arithmetics W32 f l (equal (f.opcode % 8) 4 s) h
row f l false false false true g i p s t u v h = jumps W64 f l (equal (f.opcode % 8) 5 t) h
row f l false false false false true i p s t u v h = jumps W32 f l (equal (f.opcode % 8) 6 u) h
row f l false false false false false true p s t u v h = arithmetics W64 f l (equal (f.opcode % 8) 7 v) h
row f l false false false false false false p s t u v h = cc

pub spelled : (f : Fields) (l : Line) → short_at f ≡ Some l → first_slot l ≡ f
spelled f l h = row f l (f.opcode % 8 == 1) ((f.opcode % 8 == 2) || (f.opcode % 8 == 3)) (f.opcode % 8 == 4) (f.opcode % 8 == 5) (f.opcode % 8 == 6) (f.opcode % 8 == 7) refl refl refl refl refl h
