mod InPlace
pub mod Round
