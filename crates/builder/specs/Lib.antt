-- A reader has to believe `BuilderLists`, `Refusals`, `Calls` and, of a table against an atom, `Atom`. Only the code and the proofs need `Internal`.
pub mod BuilderLists
pub mod Refusals
pub mod Calls
pub mod Atom
pub mod Internal
