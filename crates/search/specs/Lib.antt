pub mod FirstKept
pub mod Hunts
pub mod Marks
pub mod Relations
