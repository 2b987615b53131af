pub mod Sent
pub mod Taken
