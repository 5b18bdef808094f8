-- Laws that belong to no one function.
pub mod Sums
pub mod Lines
pub mod Orders
pub mod Largest
pub mod Numbers
pub mod Slopes
pub mod Changes
pub mod Packed
pub mod Compared
