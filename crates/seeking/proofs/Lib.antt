-- Laws of the first record, and of the search.
pub mod First
pub mod Laws
