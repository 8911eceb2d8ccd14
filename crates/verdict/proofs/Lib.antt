pub mod Examples
pub mod Accepted
pub mod LargeRing
pub mod Coordinates
pub mod Alone
