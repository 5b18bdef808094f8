-- Laws that belong to no one function.
pub mod Levels
pub mod Sizes
