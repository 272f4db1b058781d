-- Laws of start.
pub mod Outcomes
