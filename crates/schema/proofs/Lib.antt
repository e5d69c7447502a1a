-- The schema's tables are meaning's list of known columns.
pub mod Laws
pub mod One
