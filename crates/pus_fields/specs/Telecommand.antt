-- Telecommand packets (CCSDS 133.0-B, 4.1; ECSS-E-ST-70-41C, 7.4.4).
use Rattle.std.specs.Prelude.{◌<◌, ℕ, ◌+◌, ◌*◌, ◌^◌, true, List, ◌++◌, length}
use Rattle.byteorder.specs.Endian.{big_bytes}
use Rattle.space_packet.specs.declared.range.TheConstants.{IDLE_APID}
use Rattle.pus_fields.specs.declared.ack.Ack.{Ack}
use Rattle.pus_fields.specs.Acknowledgement.{flags_of}
use Rattle.pus_fields.specs.Controlled.{IsControlled, whole_header}
use Rattle.pus_fields.specs.ErrorControl.{error_control}

-- what a telecommand packet carries
pub record Telecommand : Type 0 where
  pub apid : ℕ
  pub count : ℕ
  pub ack : Ack
  pub service : ℕ
  pub subtype : ℕ
  pub source : ℕ
  pub payload : List ℕ

-- each number fits its field, and the application process identifier is not that of idle packets
pub record IsTelecommandInRange (tc : Telecommand) : Type 0 where
  pub apid : tc.apid < IDLE_APID
  pub count : tc.count < 2 ^ 14
  pub ack : flags_of tc.ack < 2 ^ 4
  pub service : tc.service < 2 ^ 8
  pub subtype : tc.subtype < 2 ^ 8
  pub source : tc.source < 2 ^ 16

-- the request identifier, the first four octets of an unsegmented telecommand with a secondary
-- header:
-- version number 0 (3 bits), type 1 (1), secondary header flag 1 (1), application process
-- identifier (11), sequence flags 11 (2), sequence count (14)
abbrev pub request_id : ℕ → ℕ → List ℕ
request_id apid count = big_bytes 2 (2 ^ 12 + 2 ^ 11 + apid) ++ big_bytes 2 (3 * 2 ^ 14 + count)

-- the secondary header, 5 octets: version number 2 (4 bits), acknowledgement flags (4), service
-- type (8), message subtype (8), source identifier (16)
abbrev pub telecommand_secondary : Telecommand → List ℕ
telecommand_secondary tc =
    big_bytes 1 (2 * 2 ^ 4 + flags_of tc.ack) ++ big_bytes 1 tc.service ++ big_bytes 1 tc.subtype
    ++ big_bytes 2 tc.source

-- the octets of a telecommand but its error control
abbrev pub telecommand_covered : Telecommand → List ℕ
telecommand_covered tc =
    request_id tc.apid tc.count ++ big_bytes 2 (length tc.payload + 6) ++ telecommand_secondary tc
    ++ tc.payload

-- the octets are the packet of this telecommand: its data field is the secondary header, the
-- payload and the error control of all octets before it
pub record IsTelecommand (octets : List ℕ) (tc : Telecommand) : Type 0 where
  pub in_range : IsTelecommandInRange tc
  pub controlled : IsControlled octets (whole_header true tc.apid tc.count)
      (telecommand_secondary tc ++ tc.payload)

-- the octets of a telecommand, one packet for each
unfoldable pub telecommand_octets : Telecommand → List ℕ
telecommand_octets tc =
    telecommand_covered tc ++ big_bytes 2 (error_control (telecommand_covered tc))
