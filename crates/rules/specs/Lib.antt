pub mod Rules
pub mod Numerators
