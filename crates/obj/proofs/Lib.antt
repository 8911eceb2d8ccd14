pub mod Fields
pub mod Items
pub mod Passing
pub mod Cases
