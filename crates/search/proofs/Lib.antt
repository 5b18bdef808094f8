-- Laws that belong to no one function.
pub mod Bounds
pub mod Laws
pub mod Lengths
pub mod Below
pub mod Signs
pub mod Regions
pub mod Halves
pub mod Nearness
pub mod Sifting
