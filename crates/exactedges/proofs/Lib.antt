pub mod Plain
pub mod Wide
