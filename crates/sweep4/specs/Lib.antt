-- Quadruples is what is counted; Passing is for the contracts of the code.
pub mod Quadruples
pub mod Passing
