-- The laws on digits.
pub mod Laws
