pub mod Scans
pub mod Gives
pub mod Reads
