use Rattle.std.proofs.Common.{◌≡◌, ◌++◌, List, ℕ, append_assoc, codes, ◌∙◌, sym, ap, subst, Ok}
use Rattle.std.specs.Prelude.{OnOk}
use Rattle.std.specs.Fmt.{decimal}
use Rattle.hex.specs.Hex.{encode_lower}
use Rattle.pus_fields.specs.Telemetry.{Telemetry}
use Rattle.ocp_console.specs.Texts.{line_of, report_line}
use Rattle.ocp_console.proofs.texts.push_report.Goals as goal

pub returns : goal.returns
returns g c =
    let tm = c.tm.inside in
    let one : c.push_all.new.self ≡ codes "tm " = rw c.new-front.ensures at c.push_all.ensures.items in
    let two : c.push_all-2.new.self ≡ (codes "tm " ++ decimal tm.service) ++ codes " " = cc in
    let three : c.push_all-3.new.self ≡ (c.push_all-2.new.self ++ decimal tm.subtype) ++ codes " seq " = cc in
    let four : c.push_all-4.new.self ≡ (c.push_all-3.new.self ++ decimal tm.count) ++ codes " dest " = cc in
    let five : c.push_all-5.new.self ≡ (c.push_all-4.new.self ++ decimal tm.destination) ++ codes " data " = cc in
    let old = c.args.output.now.items in
    let begun : c.extend_from_slice.new.self.items ≡ old ++ c.push_all-5.new.self = c.in_ok-extend_from_slice.ensures.items ∙ ap (λ (t : List ℕ). old ++ t) c.as_slice.ensures in
    let said : Telemetry = record { apid = tm.apid; count = tm.count; service = tm.service; subtype = tm.subtype; destination = tm.destination; time = tm.time; payload = tm.payload.now } in
    let line : report_line c.args.packet.now ≡ line_of (Ok said) = ap line_of (sym c.read_tm.ensures.value ∙ c.in-Ok.is ∙ ap Ok (sym c.tm.view_is)) in
    let whole : c.extend_from_slice.new.self.items ++ encode_lower tm.payload.now ++ codes "\n" ≡ old ++ report_line c.args.packet.now = rw (line, begun, five, four, three, two) (simp append_assoc) in
    subst (λ (t : List ℕ). OnOk c.push_octets.result (c.push_octets.new.output.items ≡ t)) whole c.push_octets.ensures
