pub mod Commands
pub mod Assembly
pub mod Listings
pub mod Checks
