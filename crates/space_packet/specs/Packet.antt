-- The space packet (CCSDS 133.0-B, "Packet structure"): its first six octets are one number of 48
-- bits, whose parts are the fields of the primary header, and the octets that remain are the data
-- field.
use Rattle.std.specs.Prelude.{◌≡◌, ◌≢◌, ◌≤◌, ◌<◌, ℕ, ◌+◌, ◌*◌, ◌/◌, ◌%◌, ◌^◌, Bool, true, false, List, length, drop, take, fold}
use Rattle.std.specs.Prelude.{◌-◌, ◌++◌, ◌==◌, not, if◌then◌else◌, nat_lt, Result, Ok, Err}
use Rattle.std.specs.Int.{to_be_bytes, w16}
use Rattle.space_packet.specs.declared.primary.Primary.{Primary}
use Rattle.space_packet.specs.declared.primary.SequenceFlags.{SequenceFlags}
use Rattle.space_packet.specs.declared.primary.SequenceFlags.TheVariants.{Continuation, First, Last, Unsegmented}
use Rattle.space_packet.specs.declared.fault.PacketFault.{PacketFault}
use Rattle.space_packet.specs.declared.fault.PacketFault.TheVariants.{Short, Version, Length}

-- a number of eight bits
abbrev pub IsOctet : ℕ → Type 0
IsOctet n = n < 2 ^ 8

-- the first six octets as one number, the first octet the most significant: below 2 ^ 48, since
-- each is below 256
abbrev pub head : List ℕ → ℕ
head octets = fold (λ n octet. n * 256 + octet) 0 (take 6 octets)

-- a field of one bit
abbrev pub bit : Bool → ℕ
bit false = 0
bit true = 1

-- the sequence flags as a number of two bits
abbrev pub flags_number : SequenceFlags → ℕ
flags_number Continuation = 0
flags_number First = 1
flags_number Last = 2
flags_number Unsegmented = 3

-- the octets are the packet with this header and this data field: from the most significant bit on
-- 3 bits of version number, 1 of packet type, 1 of secondary header flag, 11 of application process
-- identifier, 2 of sequence flags, 14 of sequence count and 16 of packet data length
pub record IsPacket (octets : List ℕ) (header : Primary) (payload : List ℕ) : Type 0 where
  pub version : head octets / 2 ^ 45 % 2 ^ 3 ≡ 0
  pub telecommand : head octets / 2 ^ 44 % 2 ≡ bit header.telecommand
  pub secondary : head octets / 2 ^ 43 % 2 ≡ bit header.secondary
  pub apid : head octets / 2 ^ 32 % 2 ^ 11 ≡ header.apid
  pub flags : head octets / 2 ^ 30 % 2 ^ 2 ≡ flags_number header.flags
  pub count : head octets / 2 ^ 16 % 2 ^ 14 ≡ header.count
  pub data_length : head octets % 2 ^ 16 + 1 ≡ length payload
  pub remain : drop 6 octets ≡ payload

-- the octets have this fault
abbrev pub HasFault : List ℕ → PacketFault → Type 0
HasFault octets Short = length octets < 7
HasFault octets Version = head octets / 2 ^ 45 % 2 ^ 3 ≢ 0
HasFault octets Length = head octets % 2 ^ 16 + 1 ≢ length (drop 6 octets)

-- the octets have this fault, and none that comes before it
abbrev pub IsFirstFault : List ℕ → PacketFault → Type 0
IsFirstFault octets Short = HasFault octets Short
IsFirstFault octets Version = (7 ≤ length octets) × HasFault octets Version
IsFirstFault octets Length =
    (7 ≤ length octets) × (head octets / 2 ^ 45 % 2 ^ 3 ≡ 0) × HasFault octets Length

-- the three words of 16 bits that a header is written as
abbrev pub identification : Primary → ℕ
identification header =
    bit header.telecommand * 2 ^ 12 + bit header.secondary * 2 ^ 11 + header.apid

abbrev pub sequence_control : Primary → ℕ
sequence_control header = flags_number header.flags * 2 ^ 14 + header.count

-- the octets of the packet with this header and this data field
abbrev pub packet_octets : Primary → List ℕ → List ℕ
packet_octets header payload =
    to_be_bytes w16 (identification header) ++ to_be_bytes w16 (sequence_control header)
    ++ to_be_bytes w16 (length payload - 1) ++ payload

-- the numbers of the header are in their ranges
abbrev pub IsHeader : Primary → Type 0
IsHeader header = (header.apid < 2 ^ 11) × (header.count < 2 ^ 14)

-- the sequence flags of a number of two bits
abbrev pub flags_of : ℕ → SequenceFlags
flags_of n =
    if n == 0 then Continuation
    else if n == 1 then First
    else if n == 2 then Last
    else Unsegmented

-- the header that the first six octets give
abbrev pub header_in : List ℕ → Primary
header_in octets = record {
  telecommand = head octets / 2 ^ 44 % 2 == 1;
  secondary = head octets / 2 ^ 43 % 2 == 1;
  apid = head octets / 2 ^ 32 % 2 ^ 11;
  flags = flags_of (head octets / 2 ^ 30 % 2 ^ 2);
  count = head octets / 2 ^ 16 % 2 ^ 14;
}

-- the packet that the octets are, or the first fault that they have
abbrev pub packet_in : List ℕ → Result (Primary × List ℕ) PacketFault
packet_in octets =
    if nat_lt (length octets) 7 then Err Short
    else if not (head octets / 2 ^ 45 % 2 ^ 3 == 0) then Err Version
    else if not (head octets % 2 ^ 16 + 1 == length (drop 6 octets)) then Err Length
    else Ok (header_in octets, drop 6 octets)
