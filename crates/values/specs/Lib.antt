-- A line whose fields are located.
pub mod Located
