pub mod Tabulate
pub mod Prefix
pub mod Parts
pub mod Table
