-- Every refusal named at once: the faults of a feed; what is promised of them; how they are handed out; then cases that are computed.
pub mod List
pub mod Promises
pub mod Told
pub mod Cases
