-- Laws of cards that serve more than one module: their lines, the verdict on them, and the theorems.
pub mod CardLines
pub mod Judging
pub mod Verdicts
pub mod Theorems
pub mod Refusing
