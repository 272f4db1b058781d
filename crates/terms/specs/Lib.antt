-- What is proved of the calls, the cards and the reports together. Loading: terms 2 and 3 of document 00 after a loading. Grids: the same
-- across grids. RoundTrips: cards written and read back.
-- Behind: the words behind an archive, for every call. Fleets: the words behind archives that lie one behind the other. Before: every
-- call that was accepted when coordinates ended at the reference answers as it did.
pub mod Loading
pub mod Grids
pub mod RoundTrips
pub mod Behind
pub mod Fleets
pub mod Before
