-- What telecommand and telemetry packets have in common (ECSS-E-ST-70-41C, 7.4): a secondary
-- header, and the error control of the packet at the end of its data field.
use Rattle.std.specs.Prelude.{◌<◌, ℕ, ◌-◌, ◌^◌, Bool, true, List, ◌++◌, length, take}
use Rattle.byteorder.specs.Endian.{big_bytes}
use Rattle.space_packet.specs.declared.primary.Primary.{Primary}
use Rattle.space_packet.specs.declared.primary.SequenceFlags.TheVariants.{Unsegmented}
use Rattle.space_packet.specs.Packet.{IsPacket}
use Rattle.pus_fields.specs.ErrorControl.{IsErrorControl}

-- the primary header of an unsegmented packet with a secondary header, telecommand or telemetry
abbrev pub whole_header : Bool → ℕ → ℕ → Primary
whole_header telecommand apid count = record {
  telecommand = telecommand;
  secondary = true;
  apid = apid;
  flags = Unsegmented;
  count = count;
}

-- the octets are the packet with this header whose data field is `front`, followed by the error
-- control of all octets before it
pub record IsControlled (octets : List ℕ) (header : Primary) (front : List ℕ) : Type 0 where
  pub control : ℕ
  pub control_fits : control < 2 ^ 16
  pub packet : IsPacket octets header (front ++ big_bytes 2 control)
  pub checked : IsErrorControl (take (length octets - 2) octets) control
