pub mod Answer
pub mod Admission
