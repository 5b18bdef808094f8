-- A reader has to believe `Resolve`, `Reading`, `Rule`, of many readings `Poses` and, of a table against an atom, `Atom`. Only the code and the proofs need `Internal`.
pub mod Resolve
pub mod Reading
pub mod Rule
pub mod Poses
pub mod Atom
pub mod Internal
