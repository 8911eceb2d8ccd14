pub mod Sum
pub mod Within
