-- Where the ids of a file's records begin.
pub mod Places
