-- How numbers and a refusal are told.
pub mod Told
