-- Reports: document 01, "Card and report". Read Report. Theorems says what is proved of them besides.
pub mod Report
pub mod Example
pub mod Theorems
