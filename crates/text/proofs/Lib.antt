-- The laws that the proofs apply, and that the crates above cite.
pub mod Laws
pub mod Chains
pub mod Lines
pub mod Walk
pub mod Fields
pub mod Spans
pub mod Runs
pub mod Values
