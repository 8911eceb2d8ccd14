pub mod Reading
pub mod BoundaryStep
pub mod Seam
pub mod Split
