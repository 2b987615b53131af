-- The room that parts of an instruction's text take at most.
use Rattle.std.specs.Prelude.{ℕ}
use Rattle.bpf_types.specs.declared.line.Line.{Line}
use Rattle.bpf_types.specs.declared.line.Line.TheVariants as line

-- the room of the operands: the longest mnemonic, movsx64, has shorter ones
abbrev pub operands_room : Line → ℕ
operands_room (line.MoveExtended extension dst src) = 24
operands_room _ = 25
