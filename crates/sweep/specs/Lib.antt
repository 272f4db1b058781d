-- The sweep is stated with the counts of `hypervolume`; Points says what it asks.
pub mod Points
