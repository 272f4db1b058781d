-- What holds of an archive with its axes in another order.
pub mod Rearranged
