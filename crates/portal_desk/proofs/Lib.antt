pub mod Base
pub mod Known
pub mod Pairs
pub mod Sheet
pub mod InTurn
pub mod Played
pub mod Steps
pub mod Framing
pub mod Taking
pub mod Sent
pub mod Moving
pub mod Telling
pub mod Heeding
pub mod Failing
pub mod Promised
mod Existing
