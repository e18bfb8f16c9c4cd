pub mod Leaves
pub mod Levels
