-- Laws that belong to no one function.
pub mod Laws
pub mod SliceRows
pub mod Changes
pub mod Turns
pub mod Accepted
