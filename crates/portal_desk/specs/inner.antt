pub mod Play
pub mod Turns
pub mod Reading
