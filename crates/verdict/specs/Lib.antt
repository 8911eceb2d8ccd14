pub mod Call
pub mod Verdict
pub mod LargeRing
