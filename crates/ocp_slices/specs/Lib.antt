pub mod Closed
pub mod Continuing
pub mod Instructing
pub mod Replies
pub mod Turns
pub mod WorkFaults
