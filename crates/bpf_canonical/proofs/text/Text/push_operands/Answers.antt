use Rattle.std.proofs.Common.{◌≡◌, ◌++◌, ◌∙◌, List, ℕ, sym, ap, append_assoc, rules}
use Rattle.std.specs.Prelude.{codes}
use Rattle.std.specs.Fmt.{decimal, signed_decimal}
use Rattle.bpf_types.specs.declared.line.Line.{Line}
use Rattle.bpf_types.specs.Line.{swap_width_bits, extension_bits}
use Rattle.bpf_canonical.specs.Canonical.{operands_text, operand_text, place_text, register, with_sign, hex_digits}
use Rattle.bpf_canonical.proofs.text.Text.push_operands.Goals as goal

-- what is written for a line of this form
of_line : {new : List ℕ} (old : List ℕ) {l m : Line} → l ≡ m → new ≡ old ++ operands_text m → new ≡ old ++ operands_text l
of_line old is e = e ∙ ap (λ k. old ++ operands_text k) (sym is)

-- what two calls write
twice : {mid new : List ℕ} (old a b : List ℕ) → mid ≡ old ++ a → new ≡ mid ++ b → new ≡ old ++ (a ++ b)
twice old a b first second = second ∙ ap (λ t. t ++ b) first ∙ append_assoc old a b

pub returns-in-Arithmetic-clause-items : goal.returns-in-Arithmetic-clause-items
returns-in-Arithmetic-clause-items g c =
    of_line c.args.self.now c.in-Arithmetic.is (twice c.args.self.now (codes " " ++ register c.in-Arithmetic.dst ++ codes ", ") (operand_text c.in-Arithmetic.operand) c.push_first_register.ensures.items c.push_operand.ensures.items)

pub returns-in-Negate-clause-items : goal.returns-in-Negate-clause-items
returns-in-Negate-clause-items g c =
    of_line c.args.self.now c.in-Negate.is (twice c.args.self.now (codes " ") (register c.in-Negate.dst) c.push_all.ensures.items c.push_register.ensures.items)

pub returns-in-MoveExtended-clause-items : goal.returns-in-MoveExtended-clause-items
returns-in-MoveExtended-clause-items g c =
    let move = c.in-MoveExtended in
    let old = c.args.self.now in
    let dst = codes " " ++ register move.dst ++ codes ", " in
    let src = twice old dst (register move.src) c.push_first_register-in-MoveExtended.ensures.items c.push_register-in-MoveExtended.ensures.items in
    let comma = twice old (dst ++ register move.src) (codes ", ") src c.push_all-in-MoveExtended.ensures.items in
    of_line old move.is (twice old (dst ++ register move.src ++ codes ", ") (decimal (extension_bits move.extension)) comma (search rules))

pub returns-in-ByteOrder-clause-items : goal.returns-in-ByteOrder-clause-items
returns-in-ByteOrder-clause-items g c =
    let order = c.in-ByteOrder in
    of_line c.args.self.now order.is (twice c.args.self.now (codes " " ++ register order.dst ++ codes ", ") (decimal (swap_width_bits order.width)) c.push_first_register-in-ByteOrder.ensures.items (search rules))

pub returns-in-LoadWide-clause-items : goal.returns-in-LoadWide-clause-items
returns-in-LoadWide-clause-items g c =
    let wide = c.in-LoadWide in
    let old = c.args.self.now in
    let dst = codes " " ++ register wide.dst in
    let prefix = twice old (dst ++ codes ", ") (codes "0x") c.push_first_register-in-LoadWide.ensures.items c.push_all-in-LoadWide.ensures.items ∙ ap (λ t. old ++ t) (append_assoc dst (codes ", ") (codes "0x")) in
    of_line old wide.is (twice old (dst ++ codes ", 0x") (hex_digits 16 wide.value) prefix c.push_hex.ensures.items)

pub returns-in-Load-clause-items : goal.returns-in-Load-clause-items
returns-in-Load-clause-items g c =
    let load = c.in-Load in
    let written : c.push_load.new.self ≡ c.args.self.now ++ (codes " " ++ register load.dst ++ codes ", " ++ place_text load.base load.offset) = search rules in of_line c.args.self.now load.is written

pub returns-in-LoadExtended-clause-items : goal.returns-in-LoadExtended-clause-items
returns-in-LoadExtended-clause-items g c =
    let load = c.in-LoadExtended in
    let written : c.push_load-in-LoadExtended.new.self ≡ c.args.self.now ++ (codes " " ++ register load.dst ++ codes ", " ++ place_text load.base load.offset) = search rules in of_line c.args.self.now load.is written

pub returns-in-JumpIf-clause-items : goal.returns-in-JumpIf-clause-items
returns-in-JumpIf-clause-items g c =
    let jump = c.in-JumpIf in
    let old = c.args.self.now in
    let dst = codes " " ++ register jump.dst ++ codes ", " in
    let operand = twice old dst (operand_text jump.operand) c.push_first_register-in-JumpIf.ensures.items c.push_operand-in-JumpIf.ensures.items in
    let comma = twice old (dst ++ operand_text jump.operand) (codes ", ") operand c.push_all-in-JumpIf.ensures.items in
    of_line old jump.is (twice old (dst ++ operand_text jump.operand ++ codes ", ") (with_sign jump.distance) comma (search rules))

pub returns-in-StoreImmediate-clause-items : goal.returns-in-StoreImmediate-clause-items
returns-in-StoreImmediate-clause-items g c =
    let place : c.push_first_place.new.self ≡ c.args.self.now ++ (codes " " ++ place_text c.in-StoreImmediate.base c.in-StoreImmediate.offset ++ codes ", ") = search rules in
    let value : c.push_signed.new.self ≡ c.push_first_place.new.self ++ signed_decimal c.in-StoreImmediate.value = search rules in
    of_line c.args.self.now c.in-StoreImmediate.is (twice c.args.self.now (codes " " ++ place_text c.in-StoreImmediate.base c.in-StoreImmediate.offset ++ codes ", ") (signed_decimal c.in-StoreImmediate.value) place value)

pub returns-in-Store-clause-items : goal.returns-in-Store-clause-items
returns-in-Store-clause-items g c =
    let place : c.push_first_place-in-Store.new.self ≡ c.args.self.now ++ (codes " " ++ place_text c.in-Store.base c.in-Store.offset ++ codes ", ") = search rules in
    of_line c.args.self.now c.in-Store.is (twice c.args.self.now (codes " " ++ place_text c.in-Store.base c.in-Store.offset ++ codes ", ") (register c.in-Store.src) place c.push_register-in-Store.ensures.items)

pub returns-in-Jump-clause-items : goal.returns-in-Jump-clause-items
returns-in-Jump-clause-items g c =
    of_line c.args.self.now c.in-Jump.is (twice c.args.self.now (codes " ") (with_sign c.in-Jump.distance) c.push_all-in-Jump.ensures.items (search rules))

pub returns-in-LongJump-clause-items : goal.returns-in-LongJump-clause-items
returns-in-LongJump-clause-items g c =
    of_line c.args.self.now c.in-LongJump.is (twice c.args.self.now (codes " ") (with_sign c.in-LongJump.distance) c.push_all-in-LongJump.ensures.items (search rules))

pub returns-in-Call-clause-items : goal.returns-in-Call-clause-items
returns-in-Call-clause-items g c =
    of_line c.args.self.now c.in-Call.is (twice c.args.self.now (codes " ") (signed_decimal c.in-Call.number) c.push_all-in-Call.ensures.items (search rules))

pub returns-in-CallLocal-clause-items : goal.returns-in-CallLocal-clause-items
returns-in-CallLocal-clause-items g c =
    of_line c.args.self.now c.in-CallLocal.is (twice c.args.self.now (codes " local ") (with_sign c.in-CallLocal.distance) c.push_all-in-CallLocal.ensures.items (search rules))
