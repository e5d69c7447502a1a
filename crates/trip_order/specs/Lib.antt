-- The lines of a trip in the order of their sequences.
pub mod Lines
pub mod Cells
pub mod Steady
pub mod Feed
