-- What the functions of reading rest on.
pub mod First
pub mod Values
pub mod Speaks
pub mod Wholes
pub mod Heads
pub mod Files
pub mod Dated
pub mod One
