-- A reader has to believe `Repack` and, of what is promised, `Kept`. Only the code and the proofs need `Internal`.
pub mod Repack
pub mod Kept
pub mod Internal
