-- Laws of the line. Tally: its entries counted; Rising, Flags and Entries: how they stand; ColumnLaws: what is lowest over one x.
-- The others serve one function each.
pub mod Tally
pub mod Rising
pub mod Flags
pub mod Entries
pub mod ColumnLaws
mod RankLaws
pub mod PlaceLaws
mod ThinLaws
mod EnterLaws
