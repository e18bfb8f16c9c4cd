pub mod Listed
pub mod Numbered
pub mod Openings
pub mod Placed
pub mod Scan
pub mod Unique
pub mod Values
