-- Laws of the six reports.
pub mod Reports
