pub mod FirstMate
