-- How close the volume in doubles is.
pub mod Precision
