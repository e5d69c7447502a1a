-- What the check says besides the outcome.
pub mod Small
