pub mod Ring
pub mod RingWeights
pub mod Scales
