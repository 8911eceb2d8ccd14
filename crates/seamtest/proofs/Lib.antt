pub mod Examples
pub mod Side
pub mod Agree
pub mod KeepsSeam
