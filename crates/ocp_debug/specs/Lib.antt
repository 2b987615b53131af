pub mod Commands
pub mod Memory
pub mod Traces
pub mod Texts
pub mod Appending
pub mod Mirror
pub mod Clauses
