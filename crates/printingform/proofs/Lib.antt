pub mod Examples
pub mod Writing
