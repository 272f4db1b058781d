-- Laws of a drop made on columns.
pub mod Noting
pub mod Recounts
pub mod Made
