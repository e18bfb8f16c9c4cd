pub mod Judging
pub mod Parting
pub mod Relating
pub mod Settling
pub mod Sheets
