pub mod Examples
pub mod Limits
pub mod Lengths
pub mod Cases
pub mod Back
