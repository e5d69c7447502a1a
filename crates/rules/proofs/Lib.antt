-- What the parts give together.
pub mod Laws
