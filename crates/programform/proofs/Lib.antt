pub mod Examples
pub mod Parsing
pub mod Loaded
pub mod RoundTrip
pub mod Forms
pub mod Input
