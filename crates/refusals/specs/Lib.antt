-- What the contracts of the table of refusals cite.
pub mod Table
