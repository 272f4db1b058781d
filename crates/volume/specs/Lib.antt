-- Volume is what the call is and answers; Layering is for the contracts of the code.
pub mod Volume
pub mod Layering
