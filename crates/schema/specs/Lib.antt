-- What the known columns of a file ask, as a list; which of them a value names; and a known column of the code.
pub mod AllKnown
pub mod Named
pub mod Shown
