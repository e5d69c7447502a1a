-- What the functions between bytes and fields answer.
pub mod Lines
pub mod Fields
pub mod Values
