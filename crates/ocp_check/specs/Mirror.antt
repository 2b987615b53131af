pub mod Ranges
pub mod Forms
pub mod Words
pub mod Callers
pub mod Fits
pub mod Start
pub mod Ranks
