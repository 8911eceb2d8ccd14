pub mod EdgeTable
pub mod Faces
