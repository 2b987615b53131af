pub mod Flying
pub mod Faults
