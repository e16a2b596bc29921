pub mod Limits
pub mod Lines
pub mod Faults
pub mod Numbers
pub mod inner
