-- The proofs of what specs/Loading, specs/Grids, specs/RoundTrips, specs/Behind, specs/Fleets and specs/Before state; Seen is the heart
-- of the fourth and the fifth.
pub mod Loading
pub mod Grids
pub mod RoundTrips
pub mod Seen
pub mod Behind
pub mod Fleets
pub mod Before
