-- A reader has to believe `Locator` and `Several`. Only the code and the proofs need `Internal`.
pub mod Locator
pub mod Several
pub mod Internal
