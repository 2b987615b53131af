pub mod Restoration
pub mod Codes
pub mod Replays
pub mod Kept
pub mod Cut
