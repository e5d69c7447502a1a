-- What the functions of a walk along a line answer.
pub mod States
