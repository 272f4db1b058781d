-- The area that points cover, seen along z.
pub mod Area
