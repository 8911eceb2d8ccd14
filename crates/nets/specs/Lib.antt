pub mod Net
pub mod Buffers
pub mod Moved
pub mod Drawn
