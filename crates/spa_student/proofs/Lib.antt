pub mod Base
pub mod Machine
pub mod Start
pub mod CutSteps
