pub mod HonestLists
pub mod HonestGroups
pub mod LeftOver
mod OverRuns
mod BestShown
pub mod Going
pub mod OverGroups
pub mod ShorterLists
pub mod Reasons
mod Undeducible
mod Purged
mod Saved
mod SeenByChoice
