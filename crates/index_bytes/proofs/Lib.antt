-- The tests of an index's head.
pub mod Head
