use Rattle.std.proofs.Common.{◌≡◌, ◌%◌, ◌++◌, [], ◌∷◌, refl, length, ap, append_assoc, subst, arith, rules}
use Rattle.std.proofs.lemmas.Slice.{pushed}
use Rattle.pus_fields.specs.Telemetry.{IsTelemetryInRange, telemetry_covered, telemetry_octets}
use Rattle.pus_fields.proofs.Written.{appended_tm, telemetry_octets-is}
use Rattle.pus_fields.proofs.writing.write_tm.Goals as goal

pub returns-clause-octets : goal.returns-clause-octets
returns-clause-octets g c =
    let tm = c.tm.inside in
    let service : tm.service ≡ tm.service % 256 = omega arith in
    let subtype : tm.subtype ≡ tm.subtype % 256 = omega arith in
    let one = pushed c.to_be_bytes.result (refl {a = c.reserve.new.self.items}) c.unwrap.ensures c.extend_from_slice.ensures.items in
    let two = pushed c.to_be_bytes-2.result one c.unwrap-2.ensures c.extend_from_slice-2.ensures.items in
    let three = pushed c.to_be_bytes-3.result two c.unwrap-3.ensures c.extend_from_slice-3.ensures.items in
    let four = pushed (32 ∷ tm.service ∷ tm.subtype ∷ 0 ∷ 0 ∷ []) three c.unwrap-4.ensures c.extend_from_slice-4.ensures.items in
    let five = pushed c.to_be_bytes-4.result four c.unwrap-5.ensures c.extend_from_slice-5.ensures.items in
    let six = pushed c.to_be_bytes-5.result five c.unwrap-6.ensures c.extend_from_slice-6.ensures.items in
    let all = pushed tm.payload.now six c.unwrap-7.ensures c.extend_from_slice-7.ensures.items in
    let covered : c.extend_from_slice-7.new.self.items ≡ c.reserve.new.self.items ++ telemetry_covered c.args.tm.now =
    rw (all, c.to_be_bytes-5.ensures, c.to_be_bytes-4.ensures, c.to_be_bytes-3.ensures, c.to_be_bytes-2.ensures, c.to_be_bytes.ensures, c.number.ensures.same, c.number-2.ensures.same, service, subtype, ← c.tm.view_is) (simp append_assoc) in
    appended_tm c.args.out.now.items c.reserve.new.self.items c.append_error_control.new.out.items _ c.len-start.result c.args.tm.now c.reserve.ensures.items (omega (arith, c.reserve.new.self.ok.0)) covered c.append_error_control.ensures.items

pub returns-clause-written : goal.returns-clause-written
returns-clause-written g c =
    let range : IsTelemetryInRange c.args.tm.now = subst IsTelemetryInRange c.tm.view_is (search rules) in
    (telemetry_octets c.args.tm.now, telemetry_octets-is c.args.tm.now c.written_octets_are_the_packet.ensures range (omega (arith, ap (λ t. length t.payload) c.tm.view_is)), returns-clause-octets g c)
