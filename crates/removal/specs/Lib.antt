-- For the contracts of the steps of a removal; no exported contract cites it.
pub mod Removing
