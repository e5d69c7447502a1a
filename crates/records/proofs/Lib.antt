-- Laws of located lines and their records.
pub mod LineRecords
pub mod Waiting
pub mod Readings
pub mod References
