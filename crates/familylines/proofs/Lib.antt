mod Line
pub mod Going
