pub mod Connected
pub mod Lift
