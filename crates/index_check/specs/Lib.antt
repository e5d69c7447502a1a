-- What an index is stands in indexes; here is what the tests of one rest on.
pub mod Entries
