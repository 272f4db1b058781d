-- Laws of the orders of axes, of records sorted along them, and of the call's rows.
pub mod Swaps
pub mod Sorts
pub mod Keys
pub mod Arrangements
pub mod Rows
mod Examples
