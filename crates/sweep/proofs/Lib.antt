-- Laws that several functions use. Coordinates, Layers and SweepLaws: from the pass along the line to the counts of
-- `hypervolume`. Front: the counts in the slice that the caller lends.
pub mod Coordinates
pub mod Front
pub mod Layers
mod SweepLaws
