-- Laws of the limits, and of the corners within them.
pub mod LimitsLaws
pub mod CollectLaws
