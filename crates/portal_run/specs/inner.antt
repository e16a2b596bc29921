pub mod Beginnings
pub mod Input
pub mod Taken
