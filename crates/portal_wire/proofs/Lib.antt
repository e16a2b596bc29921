pub mod Base
pub mod Words
pub mod Literal
pub mod Once
pub mod Exist
