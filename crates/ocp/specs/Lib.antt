pub mod Status
pub mod Performing
