-- Laws of the counts, each once, for any number of axes.
pub mod Sums
pub mod Tests
pub mod Dominance
pub mod Counting
pub mod Beyond
pub mod Skips
pub mod Axes
pub mod Last
pub mod Front
pub mod Points
pub mod Examples
