-- Laws of records that repeat an earlier one.
pub mod Laws
