-- Laws of the records in the words, for all functions over them.
pub mod Columns
pub mod MovedAmounts
pub mod LeaveOut
pub mod Ranks
pub mod RowAt
pub mod HeldPoints
pub mod Stored
