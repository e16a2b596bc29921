pub mod Honest
pub mod ByNumber
pub mod examples
