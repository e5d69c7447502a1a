-- What the findings of a file rest on.
pub mod Lines
