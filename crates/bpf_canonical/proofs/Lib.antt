pub mod Digits
pub mod Tables
pub mod Words
pub mod Rooms
pub mod Unique
pub mod Texts
