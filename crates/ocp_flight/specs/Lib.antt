pub mod Pieces
pub mod Entries
pub mod Flown
pub mod Bounded
pub mod Calls
pub mod Laws
pub mod Clauses
pub mod Mirror
