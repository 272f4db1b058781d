-- The proofs of what specs/Rearranged states.
pub mod Sound
pub mod Counted
pub mod Records
pub mod Rearrangings
