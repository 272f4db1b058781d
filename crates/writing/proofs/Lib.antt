-- Laws of cards written back.
pub mod Writing
