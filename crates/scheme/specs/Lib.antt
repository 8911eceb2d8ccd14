pub mod Rings
pub mod Points
pub mod Step
