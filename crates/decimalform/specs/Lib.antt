pub mod Decimal
pub mod Stored
