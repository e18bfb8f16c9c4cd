pub mod Bounds
pub mod Combined
pub mod Laws
pub mod Rows
pub mod Sizes
