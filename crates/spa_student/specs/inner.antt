pub mod Machine
pub mod Worst
pub mod Cuts
