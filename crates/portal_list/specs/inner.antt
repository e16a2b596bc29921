pub mod Lines
pub mod Shown
pub mod Fit
pub mod Parts
pub mod Fill
pub mod ApplicantIndex
pub mod Played
