-- Laws that belong to no one function.
pub mod Puts
pub mod Filed
pub mod Whole
pub mod Outcome
pub mod OfTail
