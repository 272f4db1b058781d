-- Figures over repeated runs. Read Figures, then Theorem. Runs is for the contracts of the code; Outcome says how C's answer is made.
pub mod Figures
pub mod Theorem
pub mod Runs
pub mod Outcome
