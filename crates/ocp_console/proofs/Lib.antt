pub mod Runs
pub mod Scripts
pub mod Workless
pub mod Telling
