pub mod Answering
pub mod State
pub mod Turns
