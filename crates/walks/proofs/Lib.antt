pub mod Around
pub mod Unwinding
pub mod Winding
