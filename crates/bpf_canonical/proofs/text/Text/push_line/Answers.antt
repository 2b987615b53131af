use Rattle.std.proofs.Common.{◌≤◌, ◌+◌, ap, sym, subst, arith, length, length-append}
use Rattle.bpf_canonical.specs.declared.mnemonic.Mnemonic.{Mnemonic}
use Rattle.bpf_canonical.specs.Mnemonics.{mnemonic_name}
use Rattle.bpf_canonical.specs.Mirror.Rooms.{operands_room}
use Rattle.bpf_canonical.proofs.Rooms.{word_and_room}
use Rattle.bpf_canonical.proofs.text.Text.push_line.Goals as goal

pub push_operands-requires : goal.push_operands-requires
push_operands-requires g c =
    let line = c.args.line.now in
    let word = mnemonic_name c.mnemonic_of.result in
    let room = subst (λ (m : Mnemonic). length (mnemonic_name m) + operands_room line ≤ 31) (sym c.mnemonic_of.ensures) (word_and_room line) in
    let front = ap length c.push_mnemonic.ensures.items in
    omega (arith, c.requires, front, length-append c.args.self.now word, room)

pub returns-clause-len : goal.returns-clause-len
returns-clause-len g c =
    let line = c.args.line.now in
    let word = mnemonic_name c.mnemonic_of.result in
    let room = subst (λ (m : Mnemonic). length (mnemonic_name m) + operands_room line ≤ 31) (sym c.mnemonic_of.ensures) (word_and_room line) in
    let front = ap length c.push_mnemonic.ensures.items in
    omega (arith, c.push_operands.ensures.len, front, length-append c.args.self.now word, room)
