pub mod Ports
pub mod Reading
pub mod Printing
pub mod Outcomes
pub mod Faults
