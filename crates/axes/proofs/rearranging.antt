-- Laws for the functions of src/rearranging.rt.
pub mod Storing
