-- Laws of an archive in columns and of the drops made there.
pub mod Ranking
pub mod Closing
pub mod Records
pub mod Dropping
