-- A reader has to believe all of it.
pub mod Rule
pub mod Reading
