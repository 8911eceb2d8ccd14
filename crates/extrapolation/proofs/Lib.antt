pub mod Turning
pub mod Extrapolated
