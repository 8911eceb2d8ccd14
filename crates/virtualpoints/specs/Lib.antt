pub mod Virtual
