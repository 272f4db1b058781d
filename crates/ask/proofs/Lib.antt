-- Laws of the counts of an archive's records, for all that ask for them.
pub mod LoadedPoints
pub mod CountedAmounts
pub mod Arrays
pub mod Finding
