-- The update is stated with the counts of `hypervolume`. Updating: what it asks. Limits is of its inner functions.
pub mod Updating
pub mod Limits
