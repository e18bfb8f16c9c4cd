pub mod Textbook
pub mod Walks
