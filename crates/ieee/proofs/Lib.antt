-- Laws that belong to no one function.
pub mod Pack
pub mod Sticky
pub mod Steps
pub mod Fields
pub mod Words
pub mod Sums
pub mod Terms
pub mod Squares
pub mod OddRoot
pub mod RootSteps
pub mod Meaning
pub mod NextToOne
pub mod Plain
pub mod Bound
pub mod ByCase
pub mod Halves
