-- A reader has to believe all of it; `Bounds` has the theorems.
pub mod Spans
pub mod Bounds
