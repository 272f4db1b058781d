-- A fourth score: the call.
pub mod Count4
