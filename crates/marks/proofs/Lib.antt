-- Laws of marks.
pub mod Bits
pub mod Tests
pub mod One
