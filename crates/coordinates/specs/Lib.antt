pub mod Points
pub mod Stencil
