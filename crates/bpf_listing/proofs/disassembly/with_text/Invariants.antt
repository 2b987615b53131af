use Rattle.std.proofs.Common.{◌≡◌, ◌+◌, ◌++◌, length, take, vec_capacity}
use Rattle.bpf_listing.proofs.disassembly.with_text.Given as goal

abbrev pub invariant-loop-octet : goal.invariant-loop-octet
invariant-loop-octet g l = (l.out.items ≡ l.initial.out.items ++ take l.octet-index l.text) × (vec_capacity l.out ≡ vec_capacity l.initial.out)
    × (length l.out.items ≡ length l.initial.out.items + l.octet-index)
