-- What reading, the tables and the rules give together.
pub mod Laws
pub mod Bounds
pub mod AllFaults
pub mod Demands
