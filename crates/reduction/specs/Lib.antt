-- For the contracts of the steps of a reduction; no exported contract cites it.
pub mod Columns
