-- What the writer of an index holds on its way.
pub mod Writing
