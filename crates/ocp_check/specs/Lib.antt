pub mod Never
pub mod Rounds
pub mod Mirror
