-- What six lent tables hold.
pub mod Lent
