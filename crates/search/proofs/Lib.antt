pub mod FirstKept
pub mod Hunts
pub mod Relations
