mod EdgePass
mod FacePass
pub mod FamilyTable
