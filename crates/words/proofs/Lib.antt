-- Laws that belong to no one function.
pub mod Zipped
pub mod Back
