pub mod Reading
pub mod Checks
pub mod Stops
pub mod Ops
pub mod Listed
