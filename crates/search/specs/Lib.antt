-- A reader has to believe `Geometry`, `Cells`, `Search` and `Lent`. Only the code and the proofs need `Internal`.
pub mod Geometry
pub mod Cells
pub mod Search
pub mod Lent
pub mod Internal
