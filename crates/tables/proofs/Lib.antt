-- Laws of walks along a file and of tables.
pub mod Past
pub mod Written
pub mod Turns
pub mod Ids
pub mod FirstWalk
pub mod SecondWalk
pub mod Waits
pub mod TripLines
pub mod Settling
pub mod Marking
pub mod Feeds
pub mod Behind
