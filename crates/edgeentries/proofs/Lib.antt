pub mod Packed
pub mod Entry
