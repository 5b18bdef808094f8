-- Laws of records and words.
pub mod Entries
pub mod Columns
pub mod Worded
pub mod Alike
