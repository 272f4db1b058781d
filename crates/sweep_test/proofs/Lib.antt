-- Laws of the test's lists.
pub mod Lists
