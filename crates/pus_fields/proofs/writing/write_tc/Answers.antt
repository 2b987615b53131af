use Rattle.std.proofs.Common.{◌≡◌, ◌%◌, ◌+◌, ◌++◌, [], ◌∷◌, refl, length, ap, append_assoc, subst, arith, rules}
use Rattle.std.proofs.lemmas.Slice.{pushed}
use Rattle.pus_fields.specs.Acknowledgement.{flags_of}
use Rattle.pus_fields.specs.Telecommand.{IsTelecommandInRange, telecommand_covered, telecommand_octets}
use Rattle.pus_fields.proofs.Written.{appended_tc, telecommand_octets-is}
use Rattle.pus_fields.proofs.writing.write_tc.Goals as goal

pub returns-clause-octets : goal.returns-clause-octets
returns-clause-octets g c =
    let tc = c.tc.inside in
    let flags : c.bits.result ≡ flags_of tc.ack = c.bits.ensures tt in
    let version : 32 + c.bits.result ≡ (32 + flags_of tc.ack) % 256 = omega (arith, flags, c.tc.invariant.2) in
    let service : tc.service ≡ tc.service % 256 = omega arith in
    let subtype : tc.subtype ≡ tc.subtype % 256 = omega arith in
    let one = pushed tc.id (refl {a = c.reserve.new.self.items}) c.unwrap.ensures c.extend_from_slice.ensures.items in
    let two = pushed c.to_be_bytes.result one c.unwrap-2.ensures c.extend_from_slice-2.ensures.items in
    let three = pushed ((32 + c.bits.result) ∷ tc.service ∷ tc.subtype ∷ []) two c.unwrap-3.ensures c.extend_from_slice-3.ensures.items in
    let four = pushed c.to_be_bytes-2.result three c.unwrap-4.ensures c.extend_from_slice-4.ensures.items in
    let all = pushed tc.payload.now four c.unwrap-5.ensures c.extend_from_slice-5.ensures.items in
    let covered : c.extend_from_slice-5.new.self.items ≡ c.reserve.new.self.items ++ telecommand_covered c.args.tc.now =
    rw (all, c.tc.invariant.3, c.to_be_bytes-2.ensures, c.to_be_bytes.ensures, version, service, subtype, ← c.tc.view_is) (simp append_assoc) in
    appended_tc c.args.out.now.items c.reserve.new.self.items c.append_error_control.new.out.items _ c.len-start.result c.args.tc.now c.reserve.ensures.items (omega (arith, c.reserve.new.self.ok.0)) covered c.append_error_control.ensures.items

pub returns-clause-written : goal.returns-clause-written
returns-clause-written g c =
    let range : IsTelecommandInRange c.args.tc.now = subst IsTelecommandInRange c.tc.view_is (search rules) in
    (telecommand_octets c.args.tc.now, telecommand_octets-is c.args.tc.now c.written_octets_are_the_packet.ensures range (omega (arith, ap (λ t. length t.payload) c.tc.view_is)), returns-clause-octets g c)
