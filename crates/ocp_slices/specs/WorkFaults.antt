-- Why an engine does not come back.
use Rattle.ocp_seats.specs.declared.seat.SeatFault.{SeatFault}
use Rattle.ocp_seats.specs.declared.seat.SeatFault.TheVariants as seat
use Rattle.ocp_slices.specs.declared.crew.WorkFault.{WorkFault}
use Rattle.ocp_slices.specs.declared.crew.WorkFault.TheVariants.{Memory, NotClosed}

-- the fault if a seat is refused
abbrev pub fault_of_seat : SeatFault → WorkFault
fault_of_seat seat.SeatsFull = NotClosed
fault_of_seat seat.Memory = Memory
