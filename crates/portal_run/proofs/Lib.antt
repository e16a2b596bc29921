pub mod Base
pub mod FirstLine
pub mod Known
pub mod Taken
pub mod Told
pub mod Written
