-- Laws of insert and its steps.
pub mod Admitting
pub mod Lowering
pub mod Storing
pub mod Outcomes
