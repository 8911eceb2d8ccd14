pub mod Origins
pub mod Named
