pub mod Closing
pub mod Continuing
pub mod Instructing
pub mod Outcomes
pub mod Turning
pub mod Working
