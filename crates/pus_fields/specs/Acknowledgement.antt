-- Acknowledgement flags (ECSS-E-ST-70-41C, 7.4.4.1).
use Rattle.std.specs.Prelude.{ℕ}
use Rattle.pus_fields.specs.declared.ack.Ack.{Ack}

-- the flags as one number: 1 acceptance, 2 start, 4 progress, 8 completion
abbrev pub flags_of : Ack → ℕ
flags_of ack = ack.0

-- the flags of a number
abbrev pub flags : ℕ → Ack
flags number = record { 0 = number }
