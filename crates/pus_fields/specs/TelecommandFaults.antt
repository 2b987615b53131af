-- What can be wrong with octets that should be a telecommand, in order: the first fault is the
-- answer.
use Rattle.std.specs.Prelude.{◌≡◌, ◌≢◌, ℕ, ◌-◌, ◌%◌, ◌^◌, ◌==◌, not, true, false, List, length, take, drop, slice_index, slice_range, if◌then◌else◌, Result, Ok, Err, Option, Some, None, codes}
use Rattle.byteorder.specs.Endian.{big_number}
use Rattle.space_packet.specs.declared.primary.Primary.{Primary}
use Rattle.space_packet.specs.declared.fault.PacketFault.{PacketFault}
use Rattle.space_packet.specs.declared.fault.PacketFault.TheVariants as packet
use Rattle.space_packet.specs.Packet.{IsFirstFault, packet_in}
use Rattle.pus_fields.specs.declared.fault.TcFault.{TcFault}
use Rattle.pus_fields.specs.declared.fault.TcFault.TheVariants.{Discarded, Rejected}
use Rattle.pus_fields.specs.declared.fault.Discard.{Discard}
use Rattle.pus_fields.specs.declared.fault.Discard.TheVariants.{Short, Version, Length, NotTelecommand, OtherApid}
use Rattle.pus_fields.specs.declared.fault.Rejection.{Rejection}
use Rattle.pus_fields.specs.Acknowledgement.{flags}
use Rattle.pus_fields.specs.Rejections.{IsPacketWith, IsRejected, rejection_of}
use Rattle.pus_fields.specs.Telecommand.{Telecommand}

-- the octets have this fault, and none before it, for the process of this identifier
abbrev pub HasTcFault : ℕ → List ℕ → TcFault → Type 0
HasTcFault apid octets (Discarded Short) = IsFirstFault octets packet.Short
HasTcFault apid octets (Discarded Version) = IsFirstFault octets packet.Version
HasTcFault apid octets (Discarded Length) = IsFirstFault octets packet.Length
HasTcFault apid octets (Discarded NotTelecommand) =
    IsPacketWith octets (λ header field. header.telecommand ≡ false)
HasTcFault apid octets (Discarded OtherApid) =
    IsPacketWith octets (λ header field. (header.telecommand ≡ true) × (header.apid ≢ apid))
HasTcFault apid octets (Rejected why id) = (id ≡ take 4 octets)
    × IsPacketWith octets (λ header field.
    (header.telecommand ≡ true) × (header.apid ≡ apid) × IsRejected why 7 octets header field)

-- the name of a discard in what the program prints
abbrev pub discard_name : Discard → List ℕ
discard_name Short = codes "Short"
discard_name Version = codes "Version"
discard_name Length = codes "Length"
discard_name NotTelecommand = codes "NotTelecommand"
discard_name OtherApid = codes "OtherApid"

-- ---- the same as a function

-- octets that are no packet are discarded for the same reason
abbrev pub discard_of : PacketFault → Discard
discard_of packet.Short = Short
discard_of packet.Version = Version
discard_of packet.Length = Length

-- what a sound packet carries, by its application process identifier, sequence count and data field
abbrev pub telecommand_in : ℕ → ℕ → List ℕ → Telecommand
telecommand_in apid count field = record {
  apid = apid;
  count = count;
  ack = flags (slice_index field 0 % 2 ^ 4);
  service = slice_index field 1;
  subtype = slice_index field 2;
  source = big_number 2 (drop 3 field);
  payload = slice_range field 5 (length field - 2);
}

-- a rejection carries the request identifier, the first four octets
abbrev pub unless_rejected : List ℕ → Option Rejection → Telecommand → Result Telecommand TcFault
unless_rejected octets (Some why) tc = Err (Rejected why (take 4 octets))
unless_rejected octets None tc = Ok tc

-- the answer by what the octets are as a packet: its header and data field
abbrev pub telecommand_answer :
    ℕ → List ℕ → Result (Primary × List ℕ) PacketFault → Result Telecommand TcFault
telecommand_answer apid octets (Err fault) = Err (Discarded (discard_of fault))
telecommand_answer apid octets (Ok found) =
    if not found.0.telecommand then Err (Discarded NotTelecommand)
    else if not (found.0.apid == apid) then Err (Discarded OtherApid)
    else unless_rejected octets (rejection_of 7 octets found.0 found.1)
    (telecommand_in found.0.apid found.0.count found.1)

-- the telecommand that the octets are, for the process of this identifier, or their first fault
unfoldable pub telecommand_of : ℕ → List ℕ → Result Telecommand TcFault
telecommand_of apid octets = telecommand_answer apid octets (packet_in octets)
