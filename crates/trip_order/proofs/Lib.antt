-- Laws of lines in trip order.
pub mod Groups
pub mod Greatest
pub mod Sequences
pub mod Steps
pub mod Counts
pub mod Firsts
pub mod Ends
pub mod Steady
pub mod Sorted
pub mod Examples
pub mod Feed
