-- Laws that belong to no one function.
pub mod Laws
pub mod Sizes
pub mod Grids
pub mod Tables
pub mod Kept
pub mod Totals
pub mod Parts
