pub mod Examples
pub mod BoundaryEdges
