pub mod Base
pub mod Seen
pub mod Dropping
pub mod Turns
pub mod Outcomes
