pub mod Order
pub mod Queues
pub mod Room
pub mod Search
pub mod States
pub mod Trails
pub mod Underway
pub mod Written
