-- What this crate's proofs share with those above it.
pub mod Laws
pub mod Records
pub mod Waiting
pub mod Stored
