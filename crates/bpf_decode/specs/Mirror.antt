pub mod Codes
pub mod Rows
pub mod Decoding
