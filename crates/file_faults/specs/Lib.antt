-- A walk along all the lines of a file, and faults one at a time.
pub mod Walk
