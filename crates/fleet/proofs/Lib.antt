-- Laws of archives one behind the other, and of the loops that go through them.
pub mod Fleet
pub mod Loops
