pub mod Gathered
pub mod Exact
