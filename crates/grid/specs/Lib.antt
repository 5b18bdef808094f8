-- A reader has to believe `Bins`, `Settings` and, of a table against an atom, `Atom`.
pub mod Bins
pub mod Settings
pub mod Atom
