pub mod Arguments
pub mod Asks
