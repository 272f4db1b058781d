-- Laws of the functions over one field of the records, and over their points.
pub mod Gathered
pub mod Loading
pub mod LoadedPoints
