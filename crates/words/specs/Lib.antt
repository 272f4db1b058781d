-- What an archive is, and the words that hold it: document 01, "The archive's words". Read Archive, then Layout,
-- then Format. Places and Table are for the contracts of the code.
pub mod Archive
pub mod Layout
pub mod Format
pub mod Places
pub mod Table
