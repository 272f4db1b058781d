-- Laws of reduce and its steps.
pub mod Rows
pub mod Dropping
pub mod Storing
pub mod Outcomes
