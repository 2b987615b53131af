pub mod Packets
pub mod Pieces
pub mod Rooms
