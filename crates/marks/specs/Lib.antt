-- Marks of records, and what they say of a feed.
pub mod Marks
pub mod Noted
pub mod One
