pub mod Sharing
pub mod Walks
