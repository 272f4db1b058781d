-- The layers that a set of points makes.
pub mod Layers
