pub mod Examples
pub mod Net
pub mod Counts
pub mod Back
pub mod Found
pub mod Written
