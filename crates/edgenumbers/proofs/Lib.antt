mod Edges
pub mod Net
