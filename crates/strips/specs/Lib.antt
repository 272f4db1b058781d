-- What the pass along the line counts for the next point.
pub mod Strips
