pub mod PlainFamily
