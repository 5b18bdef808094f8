-- A reader has to believe `Narrows`.
pub mod Narrows
