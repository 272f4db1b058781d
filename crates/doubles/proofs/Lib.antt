-- Rounding of whole numbers, doubles read as numbers, and layers added up.
pub mod Rounding
pub mod Reading
pub mod Summing
