-- A run line by line, for its proofs.
pub mod Replies
