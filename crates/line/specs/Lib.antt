-- The points passed by a sweep, in a line. Line says what it holds and what it counts, Column what is lowest over one x,
-- Entries what entering a point asks and leaves.
pub mod Line
pub mod Column
pub mod Entries
