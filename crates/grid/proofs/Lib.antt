-- Laws of the filling of an archive from a grid.
pub mod Filling
pub mod Outcomes
