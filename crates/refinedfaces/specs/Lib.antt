pub mod Refined
pub mod Mates
pub mod Families
