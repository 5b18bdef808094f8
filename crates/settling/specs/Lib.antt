-- A reader has to believe `Gradient` and `Settling`. Only the code and the proofs need `Internal`.
pub mod Gradient
pub mod Settling
pub mod Internal
