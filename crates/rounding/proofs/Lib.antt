-- Laws of rounding to the nearest, and of the digits of a quotient.
pub mod Nearest
mod Digits
