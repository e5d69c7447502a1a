-- What tables hold, by the places of their numbers.
pub mod Cells
pub mod Waiting
