pub mod Flags
pub mod Good
