pub mod Examples
pub mod Periodic
pub mod Virtual
pub mod Ties
pub mod Norm
pub mod Table
pub mod Scales
pub mod Tension
