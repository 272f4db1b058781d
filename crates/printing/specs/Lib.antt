-- Texts of an archive, and what a program prints of a card: document 01, "Card and report". Read Texts, then Printed. Forms and Cards
-- are for the contracts of inner functions.
pub mod Texts
pub mod Printed
pub mod Forms
pub mod Cards
