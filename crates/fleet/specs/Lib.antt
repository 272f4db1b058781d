-- Archives one behind the other in words: their reading, their rows, their layout. Read Fleet; Starts is for the contracts of the
-- code.
pub mod Fleet
pub mod Starts
