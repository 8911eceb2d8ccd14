pub mod Laws
pub mod Second
