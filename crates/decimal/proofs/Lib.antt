pub mod Reading
pub mod Copies
