mod Examples
pub mod Named
pub mod Letters
