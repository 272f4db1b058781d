-- What the contracts of reading and writing cite.
pub mod Read
pub mod Written
