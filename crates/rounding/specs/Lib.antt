-- What rounding to the nearest is.
pub mod Nearest
