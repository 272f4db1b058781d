-- Cards written back: document 02, W-205.
pub mod Written
