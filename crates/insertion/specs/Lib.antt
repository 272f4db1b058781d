-- For the contracts of the steps of an insertion; no exported contract cites it.
pub mod Inserting
