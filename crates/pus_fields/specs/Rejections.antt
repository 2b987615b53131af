-- What can be wrong with a packet that is to have a secondary header and an error control, in
-- order (ECSS-E-ST-70-41C, 7.4).
use Rattle.std.specs.Prelude.{◌≡◌, ◌≢◌, ◌<◌, ◌≤◌, ℕ, ◌-◌, ◌/◌, ◌^◌, ◌==◌, nat_lt, not, true, false, List, length, take, drop, slice_index, if◌then◌else◌, Option, Some, None}
use Rattle.byteorder.specs.Endian.{big_number}
use Rattle.space_packet.specs.declared.primary.Primary.{Primary}
use Rattle.space_packet.specs.declared.primary.SequenceFlags.TheVariants.{Unsegmented}
use Rattle.space_packet.specs.Packet.{IsPacket, flags_number}
use Rattle.pus_fields.specs.declared.fault.Rejection.{Rejection}
use Rattle.pus_fields.specs.declared.fault.Rejection.TheVariants.{Segmented, NoSecondary, NoRoom, Pec, PusVersion}
use Rattle.pus_fields.specs.ErrorControl.{IsErrorControl, error_control}

-- all octets but the last two
abbrev pub covered_octets : List ℕ → List ℕ
covered_octets octets = take (length octets - 2) octets

-- the number in the last two octets
abbrev pub last_two : List ℕ → ℕ
last_two octets = big_number 2 (drop (length octets - 2) octets)

-- the last two octets are the error control of the octets before them
abbrev pub HasErrorControl : List ℕ → Type 0
HasErrorControl octets = IsErrorControl (covered_octets octets) (last_two octets)

-- the packet is unsegmented, has a secondary header, and its data field has at least `least` octets
pub record IsWhole (least : ℕ) (header : Primary) (field : List ℕ) : Type 0 where
  pub unsegmented : header.flags ≡ Unsegmented
  pub secondary : header.secondary ≡ true
  pub room : least ≤ length field

-- the version number of the secondary header, the first 4 bits of the data field
abbrev pub pus_version : List ℕ → ℕ
pus_version field = slice_index field 0 / 2 ^ 4

-- a packet with this header and data field is rejected for this reason, and for none before it
abbrev pub IsRejected : Rejection → ℕ → List ℕ → Primary → List ℕ → Type 0
IsRejected Segmented least octets header field = header.flags ≢ Unsegmented
IsRejected NoSecondary least octets header field =
    (header.flags ≡ Unsegmented) × (header.secondary ≡ false)
IsRejected NoRoom least octets header field =
    (header.flags ≡ Unsegmented) × (header.secondary ≡ true) × (length field < least)
IsRejected Pec least octets header field = IsWhole least header field × (¬ HasErrorControl octets)
IsRejected PusVersion least octets header field =
    IsWhole least header field × HasErrorControl octets × (pus_version field ≢ 2)

-- the packet is rejected for none of the reasons
pub record IsSound (least : ℕ) (octets : List ℕ) (header : Primary) (field : List ℕ) : Type 0 where
  pub whole : IsWhole least header field
  pub checked : HasErrorControl octets
  pub version : pus_version field ≡ 2

-- the octets are a packet whose header and data field meet this
abbrev pub IsPacketWith : List ℕ → (Primary → List ℕ → Type 0) → Type 0
IsPacketWith octets P =
    (header : Primary) × (field : List ℕ) × IsPacket octets header field × P header field

-- the first reason as a function
abbrev pub rejection_of : ℕ → List ℕ → Primary → List ℕ → Option Rejection
rejection_of least octets header field =
    if not (flags_number header.flags == 3) then Some Segmented
    else if not header.secondary then Some NoSecondary
    else if nat_lt (length field) least then Some NoRoom
    else if not (error_control (covered_octets octets) == last_two octets) then Some Pec
    else if not (pus_version field == 2) then Some PusVersion
    else None
