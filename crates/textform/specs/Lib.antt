pub mod Limits
pub mod Bytes
pub mod Form
pub mod Text
pub mod Fits
pub mod Recognition
