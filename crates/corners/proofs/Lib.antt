-- Covered: a point that two others cover. Passing: which corners count. UpdateLaws: the counts of the corners that count are
-- those of one more point. Updates: what callers need of an update.
mod Covered
mod Passing
mod UpdateLaws
pub mod Updates
