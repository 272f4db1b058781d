-- For the contracts of inner functions; no exported contract cites it.
pub mod Others
