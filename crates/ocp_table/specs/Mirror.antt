pub mod Contents
pub mod Codes
pub mod Rows
