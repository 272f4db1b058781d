-- The laws of layers.
pub mod Layers
