-- The first record with an id, with no search in it, and where an id stands in a sorted order.
pub mod First
pub mod Seek
