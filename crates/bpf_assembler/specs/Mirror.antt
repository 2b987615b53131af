-- What the two passes of the assembler keep and answer, for their proofs.
pub mod Tables
pub mod Passes
