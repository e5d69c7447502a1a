-- Laws of the walk along the order of waiting lines.
pub mod Table
pub mod Telling
pub mod Turns
pub mod Walking
pub mod File
pub mod Ranks
pub mod Examples
