pub mod Lines
pub mod FirstLines
pub mod Body
pub mod Storing
pub mod Cases
