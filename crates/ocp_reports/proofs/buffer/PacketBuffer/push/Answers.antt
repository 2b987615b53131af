use Rattle.std.proofs.Common.{◌≡◌, ◌≤◌, ◌<◌, ◌+◌, ◌-◌, ℕ, List, ◌∷◌, [], ◌++◌, length, Result, Ok, Err, refl, sym, ap, subst, ◌∙◌, arith, length-append}
use Rattle.std.specs.Prelude.{IsOk, vec_capacity}
use Rattle.pus_fields.specs.declared.fault.WriteFault.{WriteFault}
use Rattle.pus_fields.specs.declared.fault.WriteFault.TheVariants.{Memory, TooLong}
use Rattle.pus_fields.specs.Telemetry.{IsTelemetry, telemetry_octets}
use Rattle.ocp_reports.specs.Packets.{IsTelemetryPacket}
use Rattle.ocp_reports.specs.Pieces.{pieces, Fills}
use Rattle.ocp_reports.specs.Room.{HasRoomAfter}
use Rattle.ocp_reports.proofs.Pieces.{room_in, pushed, pushed_pieces}
use Rattle.ocp_reports.proofs.buffer.PacketBuffer.push.Goals as goal

room_for : (seen : List (List ℕ)) (xs ns : List ℕ) (octets : ℕ) → pieces xs ns ≡ seen → Fills xs ns → HasRoomAfter seen octets → (length xs + octets ≤ 1600) × (length ns < 64)
room_for seen xs ns octets is fills has = room_in xs ns octets fills (subst (λ v. HasRoomAfter v octets) (sym is) has)

-- what is written is not refused, since there is room
is_written : (r : Result (Unit {0}) WriteFault) (n len capacity : ℕ) → (r ≡ Err TooLong → 65523 < n) → (r ≡ Err Memory → capacity < len + (19 + n)) → len + (19 + n) ≤ 1600 → 1600 ≤ capacity → IsOk r
is_written (Ok x) n len capacity long full room large = refl
is_written (Err TooLong) n len capacity long full room large = absurd (omega (arith, long refl, room))
is_written (Err Memory) n len capacity long full room large = absurd (omega (arith, full refl, room, large))

pub unwrap-requires : goal.unwrap-requires
unwrap-requires g c =
    let octets = c.self.inside.octets in
    let room = room_for c.args.self.now octets.items c.self.inside.lengths.items (19 + length c.args.telemetry.now.payload) c.self.view_is c.self.invariant.0.whole c.requires in
    is_written c.write_tm.result (length c.args.telemetry.now.payload) (length octets.items) (vec_capacity octets) c.write_tm.ensures.too_long.0 (λ e. omega (arith, c.write_tm.ensures.memory e, octets.ok.0)) room.0 c.self.invariant.1

pub push_reserved-requires : goal.push_reserved-requires
push_reserved-requires g c =
    let room = room_for c.args.self.now c.self.inside.octets.items c.self.inside.lengths.items (19 + length c.args.telemetry.now.payload) c.self.view_is c.self.invariant.0.whole c.requires in
    let few = room.1 in
    omega (arith, few, c.self.invariant.2, c.self.inside.lengths.ok.0)

pub invariant_of-self : goal.invariant_of-self
invariant_of-self g c =
    let packet = telemetry_octets c.args.telemetry.now in
    let told : c.write_tm.new.out.items ≡ c.self.inside.octets.items ++ packet = rw c.unwrap.ensures at c.write_tm.ensures.octets in
    let all : length c.write_tm.new.out.items ≡ length c.self.inside.octets.items + length packet = ap length told ∙ length-append c.self.inside.octets.items packet in
    let size : c.len.result - c.len-start.result ≡ length packet = omega (arith, all, c.len.ensures, c.len-start.ensures, c.self.inside.octets.ok.0, c.write_tm.new.out.ok.0) in
    let written : (p : List ℕ) × IsTelemetry p c.args.telemetry.now × (c.write_tm.new.out.items ≡ c.self.inside.octets.items ++ p) = rw c.unwrap.ensures at c.write_tm.ensures.written in
    let range = written.1.in_range in
    let room = room_for c.args.self.now c.self.inside.octets.items c.self.inside.lengths.items (19 + length c.args.telemetry.now.payload) c.self.view_is c.self.invariant.0.whole c.requires in
    let octets = room.0 in
    let is : IsTelemetryPacket packet = subst IsOk (sym (c.telemetry_octets_are_read_back.ensures c.args.telemetry.now range (omega (arith, octets)))) refl in (
      pushed c.self.inside.octets.items c.self.inside.lengths.items c.write_tm.new.out.items c.push_reserved.new.self.items packet _ c.self.invariant.0 told c.push_reserved.ensures.items size is,
      omega (arith, c.self.invariant.1, c.write_tm.ensures.capacity),
      omega (arith, c.self.invariant.2, c.push_reserved.ensures.capacity),
    )

pub returns : goal.returns
returns g c =
    let packet = telemetry_octets c.args.telemetry.now in
    let told : c.write_tm.new.out.items ≡ c.self.inside.octets.items ++ packet = rw c.unwrap.ensures at c.write_tm.ensures.octets in
    let all : length c.write_tm.new.out.items ≡ length c.self.inside.octets.items + length packet = ap length told ∙ length-append c.self.inside.octets.items packet in
    let size : c.len.result - c.len-start.result ≡ length packet = omega (arith, all, c.len.ensures, c.len-start.ensures, c.self.inside.octets.ok.0, c.write_tm.new.out.ok.0) in
    pushed_pieces c.self.inside.octets.items c.self.inside.lengths.items c.write_tm.new.out.items c.push_reserved.new.self.items packet _ c.self.invariant.0 told c.push_reserved.ensures.items size
    ∙ ap (λ v. v ++ packet ∷ []) c.self.view_is
