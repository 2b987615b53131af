use Rattle.std.proofs.Common.{◌≡◌, ◌≤◌, ◌+◌, ◌*◌, ◌++◌, drop, length}
use Rattle.ocp_debug.specs.Texts.{register_lines}
use Rattle.ocp_debug.proofs.texts.push_registers.Given as goal

-- the lines so far, and those of the other registers
abbrev pub invariant-loop-register : goal.invariant-loop-register
invariant-loop-register l = record {
  text : l.text ++ register_lines l.index (drop l.register-index l.registers) ≡ l.fn.text ++ register_lines 0 l.fn.registers;
  few : length l.text ≤ length l.fn.text + 22 * l.register-index;
  counted : l.index ≡ l.register-index;
}
