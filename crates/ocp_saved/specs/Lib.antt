pub mod InOrder
pub mod Format
pub mod Reading
pub mod Shown
pub mod Fits
pub mod Restored
pub mod Canonical
