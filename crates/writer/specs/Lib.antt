-- A reader has to believe `Write`, `Tailed` and, of a table against an atom, `Atom`; `LentTail` says how a tail is lent.
-- Only the code and the proofs need `Internal` and `Slabs`.
pub mod Write
pub mod Tailed
pub mod LentTail
pub mod Atom
pub mod Internal
pub mod Slabs
