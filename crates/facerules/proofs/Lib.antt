pub mod Reading
pub mod Directions
