pub mod Ring
pub mod AbsoluteValue
pub mod Range
pub mod Linear
pub mod Polynomial
pub mod Order
pub mod Sum
pub mod Within
