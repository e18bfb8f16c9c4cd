pub mod Once
pub mod Printing
