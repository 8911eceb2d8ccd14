mod Lines
pub mod PlainFamily
