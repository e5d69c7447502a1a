-- The laws that the proofs apply.
pub mod Laws
