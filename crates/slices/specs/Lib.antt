-- What every other crate stands on: choices by a test, words put into a slice, numbers spread over places, and values moved
-- by amounts.
pub mod Choices
pub mod Put
pub mod Spread
pub mod Amounts
