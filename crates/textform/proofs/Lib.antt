pub mod Examples
pub mod Lines
pub mod Back
pub mod Counts
pub mod Found
pub mod Beyond
pub mod Recognized
