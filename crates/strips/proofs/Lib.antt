-- Laws of the pass along the line, for one function each.
mod LookBackLaws
pub mod SettleLaws
mod StripsLaws
