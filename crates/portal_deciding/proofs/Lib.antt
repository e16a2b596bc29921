pub mod Persons
pub mod Numbers
