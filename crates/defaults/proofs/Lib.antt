pub mod Examples
pub mod Marks
