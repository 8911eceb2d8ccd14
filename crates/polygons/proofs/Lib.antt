pub mod Faces
pub mod Counts
pub mod Examples
