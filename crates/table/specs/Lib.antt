-- A reader has to believe `Bytes`, `Tail`, `File`, `Read`, `View`, `Checks`, `Loose` and, of a table against an atom, `Atom`. Only the code and the proofs need `Internal`.
pub mod Bytes
pub mod Tail
pub mod File
pub mod Read
pub mod View
pub mod Internal
pub mod Checks
pub mod Loose
pub mod Atom
