-- The laws of value forms.
pub mod Laws
pub mod NoMark
