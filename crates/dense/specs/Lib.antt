pub mod Copies
pub mod Listed
