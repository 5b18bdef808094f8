-- A reader has to believe `Sizing`.
pub mod Sizing
