-- Laws of remove and its steps.
pub mod Raising
pub mod Storing
pub mod Outcomes
