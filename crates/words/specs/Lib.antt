-- A reader has to believe `Moves`.
pub mod Moves
