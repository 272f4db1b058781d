-- Laws of choices, of words put into a list, by a loop or all at once, of numbers spread over places, and of values moved by
-- amounts, all of them or those at places.
pub mod Choices
pub mod Put
pub mod Loops
pub mod Moves
pub mod Spread
pub mod Due
pub mod Amounts
pub mod Placed
pub mod PairLoops
pub mod PlacedLoops
