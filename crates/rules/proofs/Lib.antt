pub mod Examples
pub mod Ties
pub mod Norm
pub mod Growth
pub mod Directions
