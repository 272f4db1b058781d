-- For the contract of filling; no exported contract cites it.
pub mod Filling
