pub mod Text
pub mod Faults
pub mod Labels
pub mod Assembling
pub mod Mirror
