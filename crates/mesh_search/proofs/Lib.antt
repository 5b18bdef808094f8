-- Laws that belong to no one function.
pub mod Folds
pub mod Numbers
pub mod Answered
pub mod Promised
