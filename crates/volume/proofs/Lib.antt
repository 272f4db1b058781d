-- Laws of the reading, of the layers in turn, and of how the call ends.
pub mod Reading
mod Levels
pub mod Outcomes
mod Examples
