-- Whole numbers in double precision.
pub mod Doubles
