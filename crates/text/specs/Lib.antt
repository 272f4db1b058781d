-- Decimal numbers in bytes: document 01, "Card and report". Read Fields first, then Lines, then Justified.
pub mod Fields
pub mod Lines
pub mod Justified
