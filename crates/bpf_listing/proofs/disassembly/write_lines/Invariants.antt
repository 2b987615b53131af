use Rattle.std.proofs.Common.{◌≡◌, ◌-◌, vec_capacity}
use Rattle.bpf_listing.proofs.Written.{Writes}
use Rattle.bpf_listing.proofs.disassembly.write_lines.Given as goal

abbrev pub invariant-loop-slot : goal.invariant-loop-slot
invariant-loop-slot g l = Writes l.code (vec_capacity l.initial.out) l.initial.out.items l.out.items l.buffer l.slot l.len × (vec_capacity l.out ≡ vec_capacity l.initial.out)

abbrev pub decreases-loop-slot : goal.decreases-loop-slot
decreases-loop-slot g l = l.slots - l.slot
