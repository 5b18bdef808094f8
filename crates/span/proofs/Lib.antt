-- Laws that belong to no one function.
pub mod Touched
pub mod Included
pub mod Outcome
pub mod Between
pub mod Promises
