-- Laws of the archive's words. Reading: reading undoes the layout. Passed: what words that pass rows 1 to 3 are. Held and
-- SoundRows: the tests of row 3 on lists. Places: records by their place. Short: a first part of the words. What serves
-- one function's proof alone is in the folder of its module.
pub mod Reading
pub mod Passed
pub mod Held
pub mod SoundRows
pub mod Places
pub mod Short
