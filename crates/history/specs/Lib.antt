-- Term 3 of document 00: the trial book, what it means that a history of calls agrees with it, what one call moves;
-- term 2 after a history; and the counts to meet. Read Book, History and Moves, then Kept and Terms.
pub mod Book
pub mod History
pub mod Moves
pub mod Kept
pub mod Terms
pub mod Stars
