-- Laws of fields, of numbers justified and of lines; FieldAt and PutNumber are of the loops that read a field and write a number.
pub mod Fields
pub mod Justified
pub mod Lines
pub mod FieldAt
pub mod PutNumber
pub mod Examples
