pub mod Openings
pub mod Relations
pub mod Settlements
pub mod Steps
