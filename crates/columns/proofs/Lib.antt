-- What the functions of columns rest on.
pub mod Laws
pub mod Standings
pub mod Headings
