-- An index beside the feed, document 02's E4 and E9; then what is promised of it; then cases that are computed.
pub mod Order
pub mod Answer
pub mod Index
pub mod Versions
pub mod Promises
pub mod Larger
pub mod Small
pub mod Cases
