-- Entering: one more in a list. Ranking: where a point belongs. Recounts: contributions lowered. Passes: what one more
-- point leaves.
pub mod Entering
mod Ranking
mod Recounts
mod Passes
