-- For the contracts of the functions that count the records; no exported contract cites it.
pub mod RecordCounts
