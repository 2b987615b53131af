pub mod Origin
pub mod Reports
pub mod Due
pub mod Packets
pub mod Pieces
pub mod Room
