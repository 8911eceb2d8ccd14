pub mod Answer
pub mod RoundTrip
pub mod Forms
pub mod Input
