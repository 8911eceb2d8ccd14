pub mod Oriented
pub mod Manifold
pub mod Places
pub mod Nets
pub mod Examples
