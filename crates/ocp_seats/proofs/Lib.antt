pub mod Walks
pub mod Histories
pub mod Going
pub mod Takings
