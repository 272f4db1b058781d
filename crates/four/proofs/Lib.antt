-- The rows of the call, and how it ends.
mod Rows
