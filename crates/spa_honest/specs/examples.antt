pub mod Example
pub mod Waiting
pub mod Varied
