pub mod Codes
pub mod Kept
pub mod Admitted
pub mod Counted
pub mod Tickets
pub mod Replays
