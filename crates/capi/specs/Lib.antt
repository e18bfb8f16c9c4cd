pub mod Calls
pub mod Numbers
pub mod Statuses
