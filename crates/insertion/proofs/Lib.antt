-- What the crates above use of an insertion.
pub mod Entering
