pub mod Faces
mod Marks
pub mod Round
