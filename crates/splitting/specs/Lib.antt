pub mod Splitting
pub mod WellFormed
