pub mod Base
pub mod Assigned
pub mod OneAnswer
pub mod Refused
pub mod Statuses
