-- What the crate's inner contracts say beside the definitions of document 01.
pub mod Parts
pub mod Bounds
