-- The walk along the order of waiting lines.
pub mod Table
pub mod Told
pub mod Walk
