-- Laws of reports, and the theorems.
pub mod Reporting
pub mod ReadBack
pub mod Examples
pub mod Theorems
