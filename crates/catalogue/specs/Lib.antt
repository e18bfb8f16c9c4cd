pub mod Entries
pub mod Lines
pub mod Listing
pub mod Reading
