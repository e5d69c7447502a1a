-- Handing out findings one by one.
pub mod Handing
