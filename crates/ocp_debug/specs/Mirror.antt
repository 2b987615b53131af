pub mod Breakpoints
pub mod Ring
pub mod Settings
pub mod Tracing
