pub mod Tables
pub mod Room
pub mod Offers
