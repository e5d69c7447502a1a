-- What the functions between a value and a feed answer.
pub mod Tests
pub mod Heads
pub mod Wholes
pub mod Dated
