-- Laws of the functions that move contributions by amounts.
pub mod KeptWords
pub mod Passing
