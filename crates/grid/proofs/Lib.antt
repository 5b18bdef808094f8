-- Laws that belong to no one function.
pub mod Laws
pub mod Tables
pub mod Reaches
pub mod Short
pub mod Rises
