-- Laws of the stairs: the pass along them, an entry in place of others, and one more point.
mod Crossing
mod Replacing
pub mod Growing
