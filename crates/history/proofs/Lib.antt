-- The proofs of terms 2 and 3 (Terms has both) and of the counts to meet (Stars).
pub mod Sorting
pub mod Fronts
pub mod Thinning
pub mod Steps
pub mod Histories
pub mod Moves
pub mod EqualTrials
pub mod Kept
pub mod Terms
pub mod Stars
