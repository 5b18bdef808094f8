-- A reader has to believe `Numbers`.
pub mod Numbers
