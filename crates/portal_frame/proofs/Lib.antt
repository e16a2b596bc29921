pub mod Base
pub mod Heads
pub mod HeadLines
pub mod Limits
pub mod Overlong
pub mod Unique
