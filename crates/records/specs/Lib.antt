-- For the contracts of the functions over records; no exported contract cites them.
pub mod Columns
pub mod Amounts
pub mod AtPlaces
pub mod Loaded
pub mod Ranks
pub mod Fronts
