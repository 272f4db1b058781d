-- For the contracts of the functions that count the front; what the front is stands in Rattle.hypervolume.specs.Front.
pub mod Keys
pub mod Levels
