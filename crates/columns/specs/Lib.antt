-- The columns of a header and the fields under them, as tables of ten.
pub mod Columns
pub mod Heading
