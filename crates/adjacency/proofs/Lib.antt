pub mod Chains
pub mod Sides
pub mod Queries
mod Turning
