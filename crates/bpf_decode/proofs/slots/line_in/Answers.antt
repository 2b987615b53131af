use Rattle.std.proofs.Common.{◌≡◌, IfSome, true, subst, sym}
use Rattle.bpf_decode.specs.Mirror.Codes.{is_opcode}
use Rattle.bpf_decode.proofs.Decode.{short_is_known}
use Rattle.bpf_decode.proofs.slots.line_in.Goals as goal

pub returns-else-fields-eq-LDDW-clause-known : goal.returns-else-fields-eq-LDDW-clause-known
returns-else-fields-eq-LDDW-clause-known c =
    let known = short_is_known c.in_ok-fields.fields c.short_of.result (sym c.short_of.ensures) in
    subst (λ n. IfSome c.short_of.result (λ line. is_opcode n ≡ true)) c.in_ok-fields.ensures.opcode known
