-- Laws for the functions of src/orders.rt.
pub mod Entries
