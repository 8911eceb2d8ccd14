pub mod SeamTest
pub mod Matching
pub mod KeepsSeam
