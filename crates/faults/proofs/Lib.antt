-- Laws of the list of faults, a file for each promise; that all of them hold; then the worked cases.
pub mod LastLf
pub mod OneFault
pub mod Places
pub mod Exactly
pub mod Rises
pub mod Numbers
pub mod Verdict
pub mod AtOnce
pub mod Told
pub mod Cases
