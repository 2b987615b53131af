pub mod Machine
pub mod Calls
pub mod Step
pub mod Runs
pub mod Answers
pub mod Reach
pub mod Mirror
