pub mod Answers
pub mod Automata
pub mod Diagrams
pub mod Faults
pub mod Languages
pub mod Meanings
pub mod Words
