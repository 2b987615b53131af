-- What can be wrong with octets that should be telemetry, in order: the first fault is the answer.
use Rattle.std.specs.Prelude.{◌≡◌, ◌≢◌, ℕ, ◌-◌, ◌%◌, ◌^◌, ◌==◌, ◌⊎◌, ◌&&◌, true, false, List, length, drop, slice_index, slice_range, if◌then◌else◌, Result, Ok, Err, Option, Some, None}
use Rattle.byteorder.specs.Endian.{big_number}
use Rattle.space_packet.specs.declared.primary.Primary.{Primary}
use Rattle.space_packet.specs.declared.fault.PacketFault.{PacketFault}
use Rattle.space_packet.specs.declared.fault.PacketFault.TheVariants as packet
use Rattle.space_packet.specs.Packet.{IsFirstFault, packet_in}
use Rattle.pus_fields.specs.declared.fault.TmFault.{TmFault}
use Rattle.pus_fields.specs.declared.fault.TmFault.TheVariants.{Short, Version, Length, NotTelemetry, Segmented, NoSecondary, NoRoom, Pec, PusVersion, NotProfile}
use Rattle.pus_fields.specs.declared.fault.Rejection.{Rejection}
use Rattle.pus_fields.specs.declared.fault.Rejection.TheVariants as reason
use Rattle.pus_fields.specs.Telemetry.{Telemetry}
use Rattle.pus_fields.specs.Rejections.{IsPacketWith, IsRejected, IsSound, rejection_of}

-- the time reference status, the lower 4 bits of the first octet, or the message type counter is
-- not 0
abbrev pub IsOtherProfile : List ℕ → Type 0
IsOtherProfile field = (slice_index field 0 % 2 ^ 4 ≢ 0) ⊎ (big_number 2 (drop 3 field) ≢ 0)

-- the octets are a telemetry packet that is rejected for this reason
abbrev pub IsRejectedTelemetry : List ℕ → Rejection → Type 0
IsRejectedTelemetry octets why = IsPacketWith octets (λ header field.
    (header.telecommand ≡ false) × IsRejected why 13 octets header field)

-- the octets have this fault, and none before it
abbrev pub HasTmFault : List ℕ → TmFault → Type 0
HasTmFault octets Short = IsFirstFault octets packet.Short
HasTmFault octets Version = IsFirstFault octets packet.Version
HasTmFault octets Length = IsFirstFault octets packet.Length
HasTmFault octets NotTelemetry = IsPacketWith octets (λ header field. header.telecommand ≡ true)
HasTmFault octets Segmented = IsRejectedTelemetry octets reason.Segmented
HasTmFault octets NoSecondary = IsRejectedTelemetry octets reason.NoSecondary
HasTmFault octets NoRoom = IsRejectedTelemetry octets reason.NoRoom
HasTmFault octets Pec = IsRejectedTelemetry octets reason.Pec
HasTmFault octets PusVersion = IsRejectedTelemetry octets reason.PusVersion
HasTmFault octets NotProfile = IsPacketWith octets (λ header field.
    (header.telecommand ≡ false) × IsSound 13 octets header field × IsOtherProfile field)

-- ---- the same as a function

-- what a sound packet carries, by its application process identifier, sequence count and data field
abbrev pub telemetry_in : ℕ → ℕ → List ℕ → Telemetry
telemetry_in apid count field = record {
  apid = apid;
  count = count;
  service = slice_index field 1;
  subtype = slice_index field 2;
  destination = big_number 2 (drop 5 field);
  time = big_number 4 (drop 7 field);
  payload = slice_range field 11 (length field - 2);
}

-- octets that are no packet are no telemetry for the same reason
abbrev pub fault_of_packet : PacketFault → TmFault
fault_of_packet packet.Short = Short
fault_of_packet packet.Version = Version
fault_of_packet packet.Length = Length

-- a rejection as a fault of telemetry
abbrev pub fault_of : Rejection → TmFault
fault_of reason.Segmented = Segmented
fault_of reason.NoSecondary = NoSecondary
fault_of reason.NoRoom = NoRoom
fault_of reason.Pec = Pec
fault_of reason.PusVersion = PusVersion

-- the answer to a sound packet by its data field
abbrev pub in_profile : List ℕ → Telemetry → Result Telemetry TmFault
in_profile field tm =
    if (slice_index field 0 % 2 ^ 4 == 0) && (big_number 2 (drop 3 field) == 0)
    then Ok tm else Err NotProfile

-- the answer to a packet by its first rejection, if any
abbrev pub unless_rejected : List ℕ → Option Rejection → Telemetry → Result Telemetry TmFault
unless_rejected field (Some why) tm = Err (fault_of why)
unless_rejected field None tm = in_profile field tm

-- the answer by what the octets are as a packet: its header and data field
abbrev pub telemetry_answer :
    List ℕ → Result (Primary × List ℕ) PacketFault → Result Telemetry TmFault
telemetry_answer octets (Err fault) = Err (fault_of_packet fault)
telemetry_answer octets (Ok found) =
    if found.0.telecommand then Err NotTelemetry
    else unless_rejected found.1 (rejection_of 13 octets found.0 found.1)
    (telemetry_in found.0.apid found.0.count found.1)

-- the telemetry that the octets are, or their first fault
unfoldable pub telemetry_of : List ℕ → Result Telemetry TmFault
telemetry_of octets = telemetry_answer octets (packet_in octets)
