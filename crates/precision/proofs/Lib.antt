-- The proof of it.
pub mod Precision
