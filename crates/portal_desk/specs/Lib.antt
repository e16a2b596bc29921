pub mod Kept
pub mod Session
pub mod Headline
pub mod Served
pub mod inner
