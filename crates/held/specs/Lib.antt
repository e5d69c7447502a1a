-- A table as the check has filled it.
pub mod Held
