-- Laws of the values of one located line.
pub mod Readings
pub mod Choices
