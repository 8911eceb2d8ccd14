pub mod Equal
pub mod Comparing
pub mod Sides
