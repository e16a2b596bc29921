pub mod Written
pub mod Records
pub mod AsRead
