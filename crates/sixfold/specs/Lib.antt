-- The six reports of an archive: document 02, W-212. Read Six.
pub mod Six
