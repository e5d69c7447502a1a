-- Laws of a lookup: a field walked alone, halving, the ids of a table, the table that the check wrote and an accepted index; then that each promise holds, and the cases.
pub mod Fields
pub mod Halving
pub mod Unfit
pub mod Ids
pub mod Paired
pub mod Accepted
pub mod Counter
pub mod Cases
