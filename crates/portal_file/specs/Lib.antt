pub mod Tables
pub mod Jobs
pub mod Files
pub mod Closing
pub mod Chain
pub mod inner
