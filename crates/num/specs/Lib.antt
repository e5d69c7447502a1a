-- What signed numbers mean where unsigned ones are asked for.
pub mod Signs
