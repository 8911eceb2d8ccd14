mod Points
pub mod Laws
