pub mod Base
pub mod Listing
pub mod Wanting
pub mod Grouping
