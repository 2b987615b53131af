-- The arguments of each start are octets, if requests are made of octets.
use Rattle.std.proofs.Common.{ℕ, Bool, true, false, cond, List, [], ◌∷◌, ◌++◌, length, drop, Option, Some, None, Result, Ok, Err, ◌-◌, ◌%◌, ◌^◌, ◌+◌, ◌/◌}
use Rattle.std.specs.Prelude.{IfOk, ◌==◌, ◌&&◌, nat_le, nat_lt, not}
use Rattle.std.specs.List.{All}
use Rattle.std.specs.FinMap.{get}
use Rattle.std.proofs.lemmas.List.Elements.{All-nil, All-cons, All-head, All-tail, All-append, All-take, All-drop}
use Rattle.ocp_profile.specs.declared.profile.Profile.{Profile}
use Rattle.ocp_profile.specs.declared.profile.Profile.TheVariants.{One, Two}
use Rattle.space_packet.specs.declared.primary.Primary.{Primary}
use Rattle.space_packet.specs.declared.fault.PacketFault.{PacketFault}
use Rattle.space_packet.specs.Packet.{head, packet_in}
use Rattle.pus_fields.specs.declared.fault.TcFault.{TcFault}
use Rattle.pus_fields.specs.declared.fault.Rejection.{Rejection}
use Rattle.pus_fields.specs.Rejections.{rejection_of}
use Rattle.pus_fields.specs.Telecommand.{Telecommand}
use Rattle.pus_fields.specs.TelecommandFaults.{telecommand_in, unless_rejected, telecommand_answer, telecommand_of}
use Rattle.obcp_messages.specs.Reading.{is_counted, activation_in}
use Rattle.bpf_step.specs.Reach.{IsOctet}
use Rattle.ocp_table.specs.declared.answers.InstructionOutcome.{InstructionOutcome}
use Rattle.ocp_table.specs.declared.answers.InstructionOutcome.TheVariants.{Ran, Called}
use Rattle.ocp_table.specs.Records.{Rec}
use Rattle.ocp_table.specs.Effects.{Effect, Loaded, Changed, Change, Started, Stepped}
use Rattle.ocp_world.specs.World as world
use Rattle.ocp_world.specs.World.{World, Event, opening}
use Rattle.ocp_world.specs.Requests.{command_of}
use Rattle.ocp_world.specs.After.{effect_of, after}
use Rattle.ocp_core.specs.History.{history_from, gather}
use Rattle.ocp_core.specs.Own.{Own, own_by_outcome, own_by_change, add_own}
use Rattle.ocp_core.specs.Possible.{IsOfOctets, StartsWithOctets, StartsAreOfOctets}
use Rattle.ocp_core.proofs.Arguments.{ReadsThose, either, those}
use Rattle.ocp_core.proofs.Honest.{Fits, IsHonestBy, IsHonestChangeBy, honest_event}

-- ---- requests

abbrev AreOctets : List ℕ → Type 0
AreOctets octets = All IsOctet octets

-- the data field of a packet
abbrev Field : Result (Primary × List ℕ) PacketFault → Type 0
Field r = IfOk r (λ found. AreOctets found.1)

field_if : (b : Bool) (x y : Result (Primary × List ℕ) PacketFault) → Field x → Field y → Field (cond b x y)
field_if true x y f g = f
field_if false x y f g = g

field : (octets : List ℕ) → AreOctets octets → Field (packet_in octets)
field octets are =
    field_if (nat_lt (length octets) 7) _ _ tt
    (field_if (not (head octets / 2 ^ 45 % 2 ^ 3 == 0)) _ _ tt
    (field_if (not (head octets % 2 ^ 16 + 1 == length (drop 6 octets))) _ _ tt (All-drop IsOctet 6 octets are)))

-- the payload of a telecommand
abbrev Payload : Result Telecommand TcFault → Type 0
Payload r = IfOk r (λ tc. AreOctets tc.payload)

payload_if : (b : Bool) (x y : Result Telecommand TcFault) → Payload x → Payload y → Payload (cond b x y)
payload_if true x y f g = f
payload_if false x y f g = g

payload_unless : (octets : List ℕ) (o : Option Rejection) (tc : Telecommand) → AreOctets tc.payload → Payload (unless_rejected octets o tc)
payload_unless octets (Some why) tc are = tt
payload_unless octets None tc are = are

payload_answer : (apid : ℕ) (octets : List ℕ) (r : Result (Primary × List ℕ) PacketFault) → Field r → Payload (telecommand_answer apid octets r)
payload_answer apid octets (Err fault) are = tt
payload_answer apid octets (Ok found) are =
    payload_if (not found.0.telecommand) _ _ tt
    (payload_if (not (found.0.apid == apid)) _ _ tt
    (payload_unless octets (rejection_of 7 octets found.0 found.1) (telecommand_in found.0.apid found.0.count found.1)
    (All-take IsOctet (length found.1 - 2 - 5) (drop 5 found.1) (All-drop IsOctet 5 found.1 are))))

payload : (apid : ℕ) (octets : List ℕ) → AreOctets octets → Payload (telecommand_of apid octets)
unfolding telecommand_of
payload apid octets are = payload_answer apid octets (packet_in octets) (field octets are)

-- the arguments of an activation
activation : (profile : Profile) (octets : List ℕ) → AreOctets octets → ReadsThose AreOctets (activation_in profile octets)
activation One octets are = either AreOctets (is_counted 2 octets && nat_le (length octets) 260) _ _ (All-drop IsOctet 4 octets are) tt
activation Two octets are = either AreOctets (is_counted 6 octets && nat_le (length octets) 264) _ _ (All-drop IsOctet 8 octets are) tt

-- ---- events

octets_read : (profile : Profile) (r : Result Telecommand TcFault) → Payload r → IfOk r (λ tc. ReadsThose AreOctets (command_of profile tc))
octets_read profile (Ok tc) are = those AreOctets profile tc (activation profile tc.payload are)
octets_read profile (Err fault) are = tt

octets_fit : (w : World) (e : Event) → IsOfOctets e → Fits AreOctets w e
octets_fit w (world.Request by time octets) are = octets_read w.profile (telecommand_of w.apid octets) (payload w.apid octets are)
octets_fit w e are = tt

-- ---- own events

abbrev AreOwn : List Own → Type 0
AreOwn own = All StartsWithOctets own

one_own : (event : Own) → StartsWithOctets event → AreOwn (event ∷ [])
one_own event is = All-cons StartsWithOctets event [] is (All-nil StartsWithOctets)

own_of_outcome : (outcome : InstructionOutcome) → AreOwn (own_by_outcome outcome)
own_of_outcome Ran = one_own _ tt
own_of_outcome (Called call) = one_own _ tt
own_of_outcome outcome = All-nil StartsWithOctets

own_of_change : (o : Option Rec) (pool : List ℕ) (change : Change) → IsHonestChangeBy AreOctets o pool change → AreOwn (own_by_change change)
own_of_change o pool (Started budget arguments) starts = one_own _ starts
own_of_change o pool (Stepped outcome) starts = own_of_outcome outcome
own_of_change o pool change starts = All-nil StartsWithOctets

own_after : (id : ℕ) (w : World) (effect : Effect) (own : List Own) → IsHonestBy AreOctets w.profile w.records w.pool effect → AreOwn own → AreOwn (add_own id effect own)
own_after id w (Loaded profile other image) own starts are = elim (id == other) as (λ b. AreOwn (cond b [] own)) [ true ↦ All-nil StartsWithOctets | false ↦ are ]
own_after id w (Changed other change) own starts are =
    elim (id == other) as (λ b. AreOwn (cond b (own ++ own_by_change change) own)) [
      | true ↦ All-append StartsWithOctets own (own_by_change change) are (own_of_change (get w.records other) w.pool change starts)
      | false ↦ are
    ]
own_after id w effect own starts are = are

own_from : (id : ℕ) (w : World) (es : List Event) (own : List Own) → All IsOfOctets es → AreOwn own → AreOwn (gather (add_own id) own (history_from w es))
own_from id w [] own has are = are
own_from id w (e ∷ es) own has are =
    own_from id (after w e).world es (add_own id (effect_of w e).on_records own) (All-tail IsOfOctets e es has)
    (own_after id w (effect_of w e).on_records own (honest_event AreOctets w e (octets_fit w e (All-head IsOfOctets e es has))) are)

pub starts_are_of_octets : StartsAreOfOctets
starts_are_of_octets profile apid words es id has = own_from id (opening profile apid words) es [] has (All-nil StartsWithOctets)
