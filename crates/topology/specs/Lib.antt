pub mod Shape
pub mod HalfEdge
pub mod Boundary
pub mod Vertex
pub mod Manifold
pub mod Quads
