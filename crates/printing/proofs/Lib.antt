-- Laws of texts of an archive, and of what a program prints of a card.
pub mod Laid
pub mod Texts
pub mod Printouts
