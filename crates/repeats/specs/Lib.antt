-- Which records of a table repeat an earlier one.
pub mod Repeats
