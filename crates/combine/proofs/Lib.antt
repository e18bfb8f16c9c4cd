pub mod Inverses
pub mod Kept
pub mod Numbers
