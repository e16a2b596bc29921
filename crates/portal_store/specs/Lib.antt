pub mod Base
pub mod Calls
pub mod Crash
pub mod Kept
pub mod World
pub mod inner
