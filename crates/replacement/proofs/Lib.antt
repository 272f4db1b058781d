-- Differences of counts in an i64, and what a replacement changes by the places of the records.
pub mod Differences
pub mod Places
