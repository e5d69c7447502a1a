-- What one located line and the tables that it refers to hold.
pub mod Line
pub mod Refers
pub mod Waiting
