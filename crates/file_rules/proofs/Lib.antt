-- Laws of the findings of a file.
pub mod Seen
pub mod Walk
