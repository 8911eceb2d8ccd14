pub mod Examples
pub mod Reading
pub mod Writing
pub mod Back
pub mod Found
