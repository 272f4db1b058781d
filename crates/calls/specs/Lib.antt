-- What each call answers and leaves: document 01, "Calls" and "Where each call is turned down". Read Calls, then Lent;
-- Shares is what a share can be, Counted what the audit's yes means, Drops what a reduction drops.
pub mod Calls
pub mod Lent
pub mod Shares
pub mod Counted
pub mod Drops
pub mod Earlier
pub mod Fewest
pub mod Replacement
pub mod Grid
pub mod Outcomes
