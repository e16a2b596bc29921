pub mod Inside
pub mod Fitting
pub mod Numbers
