-- What the crate's contracts say beside the definitions of document 01.
pub mod Decimals
