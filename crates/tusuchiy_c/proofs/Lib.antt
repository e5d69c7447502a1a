-- What C is told, by what the check answers.
pub mod Laws
