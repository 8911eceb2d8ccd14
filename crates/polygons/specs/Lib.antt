pub mod Polygons
