-- What mirrors the code, for proofs alone.
pub mod Register
