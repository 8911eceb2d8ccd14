mod Letters
mod Boundary
