pub mod Stays
pub mod Laid
pub mod Agree
pub mod Stay
pub mod Octets
pub mod Sound
pub mod Admit
pub mod Complete
pub mod First
pub mod Line
pub mod Stood
pub mod Listed
pub mod Room
mod InOrder
mod Loaded
mod Found
pub mod Slot
