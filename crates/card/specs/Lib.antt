-- Cards: document 01, "Card and report". Read Card, then Check. Verdict and Theorems say what is proved of them besides; Further is what the code
-- of the verdict goes by, and Reading what entering a line comes to.
pub mod Card
pub mod Check
pub mod Verdict
pub mod Further
pub mod Reading
pub mod Theorems
pub mod Outcomes
