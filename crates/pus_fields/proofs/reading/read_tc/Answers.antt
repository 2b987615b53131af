use Rattle.std.proofs.Common.{true, ℕ, ◌≡◌, ◌≤◌, ◌∙◌, ap, sym, length, arith, refl, Err, Ok, eqb-true}
use Rattle.std.proofs.lemmas.List.{take_rest}
use Rattle.byteorder.specs.Endian.{big_number}
use Rattle.pus_fields.specs.Controlled.{whole_header}
use Rattle.pus_fields.specs.Telecommand.{Telecommand, request_id}
use Rattle.pus_fields.specs.TelecommandFaults.{telecommand_in}
use Rattle.pus_fields.proofs.Fields.{four, not-false, not-true, packet-length}
use Rattle.pus_fields.proofs.ReadTelecommand.{id_is, same_telecommand, sound_is, tc_accepted, tc_is_read, tc_no_packet, tc_not_telecommand, tc_other, tc_rejected}
use Rattle.pus_fields.proofs.reading.read_tc.Goals as goal

pub returns-in-Err-clause-value : goal.returns-in-Err-clause-value
returns-in-Err-clause-value c = ap Err c.into.ensures ∙ sym (tc_no_packet c.args.apid c.args.octets.now c.in-Err.fault c.in-Err.ensures.value)

pub returns-then-not-header-clause-value : goal.returns-then-not-header-clause-value
returns-then-not-header-clause-value c = sym (tc_not_telecommand c.args.apid c.args.octets.now _ _ c.in-Ok.ensures.value c.if-not-header.true)

pub returns-then-ne-clause-value : goal.returns-then-ne-clause-value
returns-then-ne-clause-value c = sym (tc_other c.args.apid c.args.octets.now _ _ c.in-Ok.ensures.value c.if-not-header.false (not-true _ c.if-ne.ensures))

pub returns-in-Some-clause-value : goal.returns-in-Some-clause-value
returns-in-Some-clause-value c =
    let octets = c.args.octets.now in
    let long : 4 ≤ length octets = omega (arith, packet-length octets _ _ c.in-Ok.ensures.ok) in
    tc_rejected c.args.apid octets _ _ c.in-Ok.ensures.value c.if-not-header.false (not-false _ c.if-ne.ensures) c.in-Some.why _ c.in-Some.ensures.value (four octets long)

pub returns-in-Some-clause-only : goal.returns-in-Some-clause-only
returns-in-Some-clause-only c tc h e =
    let same = c.in-Ok.ensures.only (whole_header true tc.apid tc.count) _ h.controlled.packet in
    returns-in-Some-clause-value c ∙ tc_is_read c.args.apid c.args.octets.now _ _ c.in-Ok.ensures.value tc h e same.0 same.1

pub returns-in-Some-clause-err : goal.returns-in-Some-clause-err
returns-in-Some-clause-err c =
    let octets = c.args.octets.now in
    let long : 4 ≤ length octets = omega (arith, packet-length octets _ _ c.in-Ok.ensures.ok) in
    let ours : c.in-Ok.found.0.apid ≡ c.args.apid = eqb-true _ _ (not-false _ c.if-ne.ensures) in
    (four octets long, (c.in-Ok.found.0, c.in-Ok.found.1.now, c.in-Ok.ensures.ok, (c.if-not-header.false, ours, c.in-Some.ensures.reason)))

pub invariant_of-result : goal.invariant_of-result
invariant_of-result c =
    let octets = c.args.octets.now in
    let long = packet-length octets _ _ c.in-Ok.ensures.ok in
    let ours : c.in-Ok.found.0.apid ≡ c.args.apid = eqb-true _ _ (not-false _ c.if-ne.ensures) in
    let sound = c.in_default.ensures.reason in
    let id = four octets (omega (arith, long)) ∙ id_is octets _ _ c.in-Ok.ensures.ok sound.whole c.if-not-header.false long (λ i. omega (arith, c.type_inv.octets i)) in
    (omega (arith, c.requires), omega (arith, c.in-Ok.ensures.ok.count), omega (arith, c.from_bits_retain-ack.ensures tt), id ∙ ap (λ (apid : ℕ). request_id apid c.in-Ok.found.0.count) ours)

pub returns-clause-value : goal.returns-clause-value
returns-clause-value c =
    let ours : c.in-Ok.found.0.apid ≡ c.args.apid = eqb-true _ _ (not-false _ c.if-ne.ensures) in
    let tc : Telecommand = record { apid = c.args.apid; count = c.in-Ok.found.0.count; ack = c.from_bits_retain-ack.result; service = _; subtype = _; source = c.read_u16.result; payload = _ } in
    let said = same_telecommand tc (telecommand_in c.in-Ok.found.0.apid c.in-Ok.found.0.count c.in-Ok.found.1.now) (sym ours) refl (c.from_bits_retain-ack.ensures tt) refl refl (c.read_u16.ensures ∙ ap (big_number 2) (take_rest c.in-Ok.found.1.now 3)) refl in
    ap Ok said ∙ tc_accepted c.args.apid c.args.octets.now _ _ c.in-Ok.ensures.value c.if-not-header.false (not-false _ c.if-ne.ensures) c.in_default.ensures.value

pub returns-clause-ok : goal.returns-clause-ok
returns-clause-ok c =
    let ours : c.in-Ok.found.0.apid ≡ c.args.apid = eqb-true _ _ (not-false _ c.if-ne.ensures) in
    let tc : Telecommand = record { apid = c.args.apid; count = c.in-Ok.found.0.count; ack = c.from_bits_retain-ack.result; service = _; subtype = _; source = c.read_u16.result; payload = _ } in
    let said = same_telecommand tc (telecommand_in c.in-Ok.found.0.apid c.in-Ok.found.0.count c.in-Ok.found.1.now) (sym ours) refl (c.from_bits_retain-ack.ensures tt) refl refl (c.read_u16.ensures ∙ ap (big_number 2) (take_rest c.in-Ok.found.1.now 3)) refl in
    rw said (sound_is c.args.octets.now _ _ c.in-Ok.ensures.ok c.in_default.ensures.reason c.if-not-header.false (omega (arith, ours, c.requires)) (λ i. omega (arith, c.type_inv.octets i)), refl)
