-- Laws of the figures, of the loops over the totals, and of those over the runs.
pub mod Ranks
pub mod Boxes
pub mod Theorem
mod Sorting
mod Loading
mod Answering
mod Examples
