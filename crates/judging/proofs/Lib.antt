pub mod Stored
pub mod Seen
pub mod Judged
