use Rattle.std.proofs.lemmas.List.{take_rest}
use Rattle.std.proofs.Common.{◌≡◌, ◌+◌, ap, ◌*◌, ◌≤◌, arith, drop, get_or-drop, length, length-drop, subst, sym}
use Rattle.bpf_decode.specs.Faults.{Decodes}
use Rattle.bpf_decode.specs.Mirror.Decoding.{decode_result}
use Rattle.bpf_decode.proofs.FirstFault.{one_way}
use Rattle.bpf_decode.proofs.Sound.{sound}
use Rattle.bpf_decode.proofs.slots.decode_at.Goals as goal
use Rattle.bpf_decode.proofs.slots.decode_at.Goals.{After-decode}

right : (c : After-decode) → Decodes (drop (8 * c.args.slot) c.args.code.now) (decode_result (drop (8 * c.args.slot) c.args.code.now))
right c =
    let long : 8 ≤ length (drop (8 * c.args.slot) c.args.code.now) = simp length-drop (omega (arith, c.requires)) in
    sound (drop (8 * c.args.slot) c.args.code.now) long (λ i. rw (get_or-drop (8 * c.args.slot) c.args.code.now i 0) (omega (arith, c.type_inv.code (8 * c.args.slot + i))))

is : (c : After-decode) → c.decode.result ≡ decode_result (drop (8 * c.args.slot) c.args.code.now)
is c = rw c.decode.ensures (ap decode_result (take_rest c.args.code.now (8 * c.args.slot)))

decoded : (c : After-decode) → Decodes (drop (8 * c.args.slot) c.args.code.now) c.decode.result
decoded c = subst (Decodes (drop (8 * c.args.slot) c.args.code.now)) (sym (is c)) (right c)

pub returns-clause-decoded : goal.returns-clause-decoded
returns-clause-decoded c = decoded c

pub returns-clause-only : goal.returns-clause-only
returns-clause-only c other h = one_way (drop (8 * c.args.slot) c.args.code.now) other c.decode.result h (decoded c)
