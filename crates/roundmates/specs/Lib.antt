pub mod Mates
