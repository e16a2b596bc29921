pub mod Commands
pub mod Databases
pub mod Lines
pub mod Run
pub mod inner
