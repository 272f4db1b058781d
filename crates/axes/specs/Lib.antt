-- The orders of the axes, the archive rearranged, and the call that writes it.
pub mod Orders
pub mod Rearranging
pub mod Arranging
