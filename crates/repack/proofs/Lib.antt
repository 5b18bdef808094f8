-- Laws that belong to no one function.
pub mod Turns
pub mod Outcome
pub mod Packed
pub mod Accepts
pub mod Readings
pub mod Stays
pub mod Theorem
