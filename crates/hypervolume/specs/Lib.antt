-- What the archive counts: document 01, "Points and cells". Read Cells first, then Counts and Beyond. Axes and Sorted are
-- for the contracts of the code.
pub mod Cells
pub mod Counts
pub mod Beyond
pub mod Front
pub mod Axes
pub mod Sorted
