pub mod Cleared
pub mod Entries
pub mod Numbers
pub mod Written
pub mod Zeros
pub mod Accesses
pub mod InOrder
