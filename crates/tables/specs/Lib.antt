-- What a file's header and the walks along a file hold.
pub mod Fill
pub mod Walk
pub mod Noting
