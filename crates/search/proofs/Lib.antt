pub mod Tests
pub mod First
pub mod Found
pub mod Count
pub mod Pigeonhole
pub mod Iterate
pub mod Quarters
pub mod Pairs
