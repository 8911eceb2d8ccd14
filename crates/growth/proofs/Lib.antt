pub mod Laws
pub mod Bounds
pub mod Edges
pub mod Examples
