-- The laws that the proofs apply, and that the crates above cite.
pub mod Zeros
pub mod Ends
pub mod Starts
pub mod Walk
pub mod Own
