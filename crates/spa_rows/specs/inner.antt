pub mod Index
pub mod Least
