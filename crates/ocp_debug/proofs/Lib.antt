pub mod Places
pub mod Keeping
pub mod Tracing
pub mod Commanded
