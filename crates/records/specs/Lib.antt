pub mod Marks
pub mod Records
pub mod Format
