use Rattle.std.proofs.Common.{false, ◌∙◌, ap, sym, arith, refl, Err, Ok}
use Rattle.std.proofs.lemmas.List.{take_rest}
use Rattle.byteorder.specs.Endian.{big_number}
use Rattle.pus_fields.specs.Controlled.{whole_header}
use Rattle.pus_fields.specs.TelemetryFaults.{telemetry_in}
use Rattle.pus_fields.proofs.ReadTelemetry.{both_pass, other_counter, other_status, same_telemetry, sound_tm_is, tm_accepted, tm_is_read, tm_no_packet, tm_not_profile, tm_not_telemetry, tm_rejected}
use Rattle.pus_fields.proofs.reading.read_tm.Goals as goal

pub returns-in-Err-clause-value : goal.returns-in-Err-clause-value
returns-in-Err-clause-value c = ap Err c.into.ensures ∙ sym (tm_no_packet c.args.octets.now c.in-Err.fault c.in-Err.ensures.value)

pub returns-then-header-clause-value : goal.returns-then-header-clause-value
returns-then-header-clause-value c = sym (tm_not_telemetry c.args.octets.now _ _ c.in-Ok.ensures.value c.if-header.true)

pub returns-in-Some-clause-value : goal.returns-in-Some-clause-value
returns-in-Some-clause-value c = ap Err c.into-in-Some.ensures ∙ tm_rejected c.args.octets.now _ _ c.in-Ok.ensures.value c.if-header.false c.in-Some.why c.in-Some.ensures.value

pub returns-in-Some-clause-only : goal.returns-in-Some-clause-only
returns-in-Some-clause-only c tm h =
    let same = c.in-Ok.ensures.only (whole_header false tm.apid tm.count) _ h.controlled.packet in
    returns-in-Some-clause-value c ∙ tm_is_read c.args.octets.now _ _ c.in-Ok.ensures.value tm h same.0 same.1

pub returns-then-time_reference_status-ne0-clause-value : goal.returns-then-time_reference_status-ne0-clause-value
returns-then-time_reference_status-ne0-clause-value c = tm_not_profile c.args.octets.now _ _ c.in-Ok.ensures.value c.if-header.false c.in_default.ensures.value (other_status c.in-Ok.found.1.now c.if-time_reference_status-ne0.true)

pub returns-then-message_type_counter-ne0-clause-value : goal.returns-then-message_type_counter-ne0-clause-value
returns-then-message_type_counter-ne0-clause-value c =
    let counter = c.read_u16-message_type_counter.ensures ∙ ap (big_number 2) (take_rest c.in-Ok.found.1.now 3) in
    tm_not_profile c.args.octets.now _ _ c.in-Ok.ensures.value c.if-header.false c.in_default.ensures.value (other_counter c.in-Ok.found.1.now c.if-time_reference_status-ne0.false (λ zero. c.if-message_type_counter-ne0.true (counter ∙ zero)))

pub returns-clause-value : goal.returns-clause-value
returns-clause-value c =
    let said = same_telemetry (record { apid = c.in-Ok.found.0.apid; count = c.in-Ok.found.0.count; service = _; subtype = _; destination = c.read_u16.result; time = c.read_u32.result; payload = _ }) (telemetry_in c.in-Ok.found.0.apid c.in-Ok.found.0.count c.in-Ok.found.1.now) refl refl refl refl (c.read_u16.ensures ∙ ap (big_number 2) (take_rest c.in-Ok.found.1.now 5)) (c.read_u32.ensures ∙ ap (big_number 4) (take_rest c.in-Ok.found.1.now 7)) refl in
    let counter = sym (c.read_u16-message_type_counter.ensures ∙ ap (big_number 2) (take_rest c.in-Ok.found.1.now 3)) ∙ c.if-message_type_counter-ne0.false in
    ap Ok said ∙ tm_accepted c.args.octets.now _ _ c.in-Ok.ensures.value c.if-header.false c.in_default.ensures.value (both_pass c.in-Ok.found.1.now c.if-time_reference_status-ne0.false counter)

pub returns-clause-only : goal.returns-clause-only
returns-clause-only c tm h =
    let same = c.in-Ok.ensures.only (whole_header false tm.apid tm.count) _ h.controlled.packet in
    returns-clause-value c ∙ tm_is_read c.args.octets.now _ _ c.in-Ok.ensures.value tm h same.0 same.1

pub returns-clause-ok : goal.returns-clause-ok
returns-clause-ok c =
    let counter = sym (c.read_u16-message_type_counter.ensures ∙ ap (big_number 2) (take_rest c.in-Ok.found.1.now 3)) ∙ c.if-message_type_counter-ne0.false in
    let said = same_telemetry (record { apid = c.in-Ok.found.0.apid; count = c.in-Ok.found.0.count; service = _; subtype = _; destination = c.read_u16.result; time = c.read_u32.result; payload = _ }) (telemetry_in c.in-Ok.found.0.apid c.in-Ok.found.0.count c.in-Ok.found.1.now) refl refl refl refl (c.read_u16.ensures ∙ ap (big_number 2) (take_rest c.in-Ok.found.1.now 5)) (c.read_u32.ensures ∙ ap (big_number 4) (take_rest c.in-Ok.found.1.now 7)) refl in
    rw said (sound_tm_is c.args.octets.now _ _ c.in-Ok.ensures.ok c.in_default.ensures.reason c.if-header.false c.if-time_reference_status-ne0.false counter (λ i. omega (arith, c.type_inv.octets i)))
