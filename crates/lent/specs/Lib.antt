-- A reader has to believe `Calls`, `Records` and `Forms`.
pub mod Calls
pub mod Records
pub mod Forms
