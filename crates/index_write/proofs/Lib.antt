-- The laws that the proofs apply.
pub mod Cells
pub mod Bytes
pub mod Entries
pub mod Whole
pub mod Answers
