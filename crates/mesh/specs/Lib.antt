-- A reader has to believe `Levels`, `Mesh`, `Lent` and `Faces`. Only the code and the proofs need `Internal`.
pub mod Levels
pub mod Mesh
pub mod Lent
pub mod Faces
pub mod Internal
