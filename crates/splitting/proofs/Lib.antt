pub mod Examples
pub mod Coordinates
pub mod Split
pub mod Growth
pub mod Room
pub mod Moved
