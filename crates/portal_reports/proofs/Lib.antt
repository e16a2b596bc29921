pub mod Base
pub mod Keys
pub mod Padding
