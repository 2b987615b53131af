-- How much memory an open takes. Each piece begins at a multiple of 16.
use Rattle.std.specs.Prelude.{ℕ, ◌+◌, ◌*◌, ◌==◌, if◌then◌else◌}
use Rattle.core.specs.Int.{next_multiple_of}

-- the memory of a machine under a profile, by its number: stack, arguments and work region
abbrev pub machine_octets : ℕ → ℕ
machine_octets profile = 4096 + 256 + (if profile == 1 then 1024 else 4096)

-- a program: the octets of its image of at most 2,048 slots, and its 2,049 operations of 8 octets,
-- as a multiple of 16
abbrev pub program_octets : ℕ
program_octets = 8 * 2048 + 16400

-- the pieces that have one length: the records of 16 procedures, and 16 executions that wait for a
-- load; the programs and the machines of 16 procedures; the 2,048 lines in which a load reads its
-- image; 256 trace records; the reports of a call, and the lengths of 64 of them; and the engine
abbrev pub fixed_octets : ℕ → ℕ
fixed_octets profile =
    16 * (816 + 584) + 16 * (program_octets + machine_octets profile)
    + 2048 * 24 + 256 * 112 + (1600 + 64 * 2) + 1920

-- and those that the numbers give: the pool (words of 8 octets), and the journal (4 octets for each
-- entry, and the octets of all entries)
abbrev pub sum_of_pieces : ℕ → ℕ → ℕ → ℕ → ℕ
sum_of_pieces profile words entries octets =
    fixed_octets profile + next_multiple_of (8 * words) 16 + next_multiple_of (4 * entries) 16
    + next_multiple_of octets 16
