-- Laws of the calls on an archive that has been read: counts, order, soundness, least, drops, moves.
pub mod Members
pub mod Counted
pub mod Order
pub mod InOrder
pub mod Sound
pub mod Ranking
pub mod Leading
pub mod Drops
pub mod Moves
-- Laws of the calls over words: what is known of words that pass, and what a call answers and leaves.
pub mod Known
pub mod Answers
pub mod Lent
pub mod Shares
pub mod Earlier
pub mod Fewest
pub mod Replacement
pub mod Grid
